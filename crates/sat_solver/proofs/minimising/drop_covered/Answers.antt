use Rattle.std.proofs.Common.{◌∙◌, ℕ, refl, subst, arith}
use Rattle.sat_solver.specs.Cuts.{KeepsAsserting}
use Rattle.sat_solver.specs.Markings.{marked_lits}
use Rattle.sat_solver.proofs.CoveredLiterals.{all_popped}
use Rattle.sat_solver.proofs.minimising.drop_covered.Goals as goal

pub loop-place-init : goal.loop-place-init
loop-place-init c = record {
  long = refl;
  base = refl;
  start = refl;
  lits = refl;
  before = c.requires.before;
  fewer = λ v h. h;
  asserting = λ at a. a;
}

pub drop_if_covered-requires-clause-before : goal.drop_if_covered-requires-clause-before
drop_if_covered-requires-clause-before c =
    let popped = all_popped c.args.cut.now.start c.loop-place.places.items c.pop.new.self.items c.in-Some.place c.in-Some.ensures.items
    c.loop-place.invariant.before in
    omega (arith, popped.1, c.loop-place.invariant.start)

pub loop-place-preserved : goal.loop-place-preserved
loop-place-preserved c =
    let clauses = c.args.clauses.now in
    let lits = c.args.trail.now.lits in
    let cut = c.args.cut.now in
    let now = c.loop-place.cut in
    let first = marked_lits c.args.marks.now lits in
    let old = marked_lits c.loop-place.marks lits in
    let new = marked_lits c.drop_if_covered.new.marks lits in
    let B : ℕ → Type 0 = λ n. KeepsAsserting clauses lits n now.start old now.hints.items new c.drop_if_covered.new.cut.hints.items in
    let S : ℕ → Type 0 = λ n. KeepsAsserting clauses lits cut.base n old now.hints.items new c.drop_if_covered.new.cut.hints.items in
    let step = subst S c.loop-place.invariant.start (subst B c.loop-place.invariant.base c.in_ok-drop_if_covered.ensures.asserting) in
    record {
      long = c.drop_if_covered.ensures.long ∙ c.loop-place.invariant.long;
      base = c.drop_if_covered.ensures.base ∙ c.loop-place.invariant.base;
      start = c.drop_if_covered.ensures.start ∙ c.loop-place.invariant.start;
      lits = c.drop_if_covered.ensures.lits ∙ c.loop-place.invariant.lits;
      before = (all_popped cut.start c.loop-place.places.items c.pop.new.self.items c.in-Some.place c.in-Some.ensures.items c.loop-place.invariant.before).0;
      fewer = λ v h. c.loop-place.invariant.fewer v (c.in_ok-drop_if_covered.ensures.fewer v h);
      asserting = λ at a. step at (c.loop-place.invariant.asserting at a);
    }
