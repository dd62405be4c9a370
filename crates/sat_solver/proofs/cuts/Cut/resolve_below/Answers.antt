use Rattle.std.proofs.Common.{◌≡◌, ◌+◌, ◌-◌, ◌<◌, ◌∙◌, ap, sym, refl, subst, ℕ, get_or, length, take, true, false, arith}
use Rattle.std.proofs.lemmas.List.{get_or_read}
use Rattle.proof_log.specs.Literals.{lit_var}
use Rattle.sat_solver.specs.Markings.{is_marked, marked_lits, marked_count}
use Rattle.sat_solver.proofs.Cutting.{BelowState, BelowState-start, below_end}
use Rattle.sat_solver.proofs.Trailing.{reason_within}
use Rattle.sat_solver.proofs.Marking.{member_at, below_replaced, below_skipped, below_rest}
use Rattle.sat_solver.proofs.cuts.Cut.resolve_below.Goals as goal

pub is_marked-requires : goal.is_marked-requires
is_marked-requires c =
    let lits = c.args.trail.now.lits in
    let at = c.loop-at.at - 1 in
    let within : at < length lits = omega (arith, c.loop-at.invariant.within, c.loop-at.invariant.base, c.requires.within) in
    let p_is : c.index-lits-at.result ≡ get_or lits at 0 =
    get_or_read c.lits.result.now at c.index-lits-at.result (omega (arith, within, ap length c.lits.ensures.value)) c.index-lits-at.is 0
    ∙ ap (λ xs. get_or xs at 0) c.lits.ensures.value in
    let v = c.lits-lits.ensures.in_vars c.index-lits-at.result (member_at lits at c.index-lits-at.result within p_is) in
    omega (arith, v.1, c.var.ensures.value, c.requires.fits, c.loop-at.invariant.long)

pub resolve-requires-clause-reason : goal.resolve-requires-clause-reason
resolve-requires-clause-reason c =
    let at = c.loop-at.at - 1 in
    reason_within c.args.clauses.now _ c.args.trail.now.reasons c.args.trail.now.reasons at _ refl
    (c.requires.justified at (omega (arith, c.loop-at.invariant.within, c.loop-at.invariant.base)))

pub resolve-requires-clause-marked : goal.resolve-requires-clause-marked
resolve-requires-clause-marked c =
    let lits = c.args.trail.now.lits in
    let at = c.loop-at.at - 1 in
    let within : at < length lits = omega (arith, c.loop-at.invariant.within, c.loop-at.invariant.base, c.requires.within) in
    let p_is : c.index-lits-at.result ≡ get_or lits at 0 =
    get_or_read c.lits.result.now at c.index-lits-at.result (omega (arith, within, ap length c.lits.ensures.value)) c.index-lits-at.is 0
    ∙ ap (λ xs. get_or xs at 0) c.lits.ensures.value in
    ap (is_marked c.loop-at.marks) (sym (c.var.ensures.value ∙ ap lit_var p_is)) ∙ (sym c.is_marked.ensures ∙ c.if-is_marked.true)

pub loop-at-init : goal.loop-at-init
loop-at-init c = record {
  long = refl;
  base = refl;
  start = refl;
  within = omega arith;
  gathered = c.requires.gathered;
  state = BelowState-start c.args.clauses.now c.args.trail.now.lits c.args.self.now.base (marked_lits c.args.marks.now c.args.trail.now.lits)
      c.args.self.now.hints.items;
}

pub loop-at-preserved-in-Continue-1 : goal.loop-at-preserved-in-Continue-1
loop-at-preserved-in-Continue-1 c =
    let clauses = c.args.clauses.now in
    let lits = c.args.trail.now.lits in
    let end = c.args.self.now.base in
    let at = c.loop-at.at - 1 in
    let place = get_or c.args.trail.now.reasons at 0 in
    let within : at < length lits = omega (arith, c.loop-at.invariant.within, c.loop-at.invariant.base, c.requires.within) in
    let p_is : c.index-lits-at.result ≡ get_or lits at 0 =
    get_or_read c.lits.result.now at c.index-lits-at.result (omega (arith, within, ap length c.lits.ensures.value)) c.index-lits-at.is 0
    ∙ ap (λ xs. get_or xs at 0) c.lits.ensures.value in
    let on : is_marked c.loop-at.marks (lit_var (get_or lits at 0)) ≡ true =
    ap (is_marked c.loop-at.marks) (sym (c.var.ensures.value ∙ ap lit_var p_is)) ∙ (sym c.is_marked.ensures ∙ c.if-is_marked.true) in
    let cut = marked_lits c.args.marks.now lits in
    let S : ℕ → Type 0 = λ n. BelowState clauses lits end n cut c.args.self.now.hints.items (marked_lits c.loop-at.marks lits)
    c.loop-at.self.hints.items in
    let next : c.loop-at.at ≡ at + 1 = omega (arith, c.loop-at-test.true) in
    record {
      long = c.resolve.ensures.long ∙ c.loop-at.invariant.long;
      base = c.resolve.ensures.base ∙ c.loop-at.invariant.base;
      start = c.resolve.ensures.start ∙ c.loop-at.invariant.start;
      within = omega (arith, c.loop-at.invariant.within, c.resolve.ensures.base);
      gathered = c.in_ok-resolve.ensures.gathered;
      state = below_replaced clauses lits end at place cut c.args.self.now.hints.items c.loop-at.marks c.resolve.new.marks
          c.loop-at.self.hints.items c.resolve.new.self.hints.items c.lits-lits.ensures.distinct
          (omega (arith, c.loop-at-test.true, c.loop-at.invariant.within, c.loop-at.invariant.base)) c.requires.within
          (c.requires.justified at (omega (arith, c.loop-at-test.true, c.loop-at.invariant.within, c.loop-at.invariant.base))) on
          c.in_ok-resolve.ensures.replaced c.in_ok-resolve.ensures.hints (subst S next c.loop-at.invariant.state);
    }

pub loop-at-preserved : goal.loop-at-preserved
loop-at-preserved c =
    let clauses = c.args.clauses.now in
    let lits = c.args.trail.now.lits in
    let end = c.args.self.now.base in
    let at = c.loop-at.at - 1 in
    let place = get_or c.args.trail.now.reasons at 0 in
    let within : at < length lits = omega (arith, c.loop-at.invariant.within, c.loop-at.invariant.base, c.requires.within) in
    let p_is : c.index-lits-at.result ≡ get_or lits at 0 =
    get_or_read c.lits.result.now at c.index-lits-at.result (omega (arith, within, ap length c.lits.ensures.value)) c.index-lits-at.is 0
    ∙ ap (λ xs. get_or xs at 0) c.lits.ensures.value in
    let off : is_marked c.loop-at.marks (lit_var (get_or lits at 0)) ≡ false =
    ap (is_marked c.loop-at.marks) (sym (c.var.ensures.value ∙ ap lit_var p_is)) ∙ (sym c.is_marked.ensures ∙ c.if-is_marked.false) in
    let cut = marked_lits c.args.marks.now lits in
    let S : ℕ → Type 0 = λ n. BelowState clauses lits end n cut c.args.self.now.hints.items (marked_lits c.loop-at.marks lits)
    c.loop-at.self.hints.items in
    let next : c.loop-at.at ≡ at + 1 = omega (arith, c.loop-at-test.true) in
    record {
      long = c.loop-at.invariant.long;
      base = c.loop-at.invariant.base;
      start = c.loop-at.invariant.start;
      within = omega (arith, c.loop-at.invariant.within);
      gathered = c.loop-at.invariant.gathered;
      state = below_skipped clauses lits end at cut c.args.self.now.hints.items c.loop-at.marks c.loop-at.self.hints.items
          c.lits-lits.ensures.distinct (omega (arith, c.loop-at-test.true, c.loop-at.invariant.within, c.loop-at.invariant.base)) c.requires.within
          place (c.requires.justified at (omega (arith, c.loop-at-test.true, c.loop-at.invariant.within, c.loop-at.invariant.base))) off
          (subst S next c.loop-at.invariant.state);
    }

pub returns-else-self-gt0-clause-cut : goal.returns-else-self-gt0-clause-cut
returns-else-self-gt0-clause-cut c =
    let lits = c.args.trail.now.lits in
    let P : ℕ → Type 0 = λ n. marked_count c.loop-at.marks (take n lits) ≡ 0 in
    let none : c.loop-at.self.below ≡ 0 = omega (arith, c.if-self-gt0.false) in
    below_rest c.args.clauses.now lits c.args.self.now.base c.loop-at.at (marked_lits c.args.marks.now lits) c.args.self.now.hints.items
    c.loop-at.marks c.loop-at.self.hints.items (omega (arith, c.loop-at.invariant.within, c.loop-at.invariant.base))
    (subst P c.loop-at.invariant.base (sym c.loop-at.invariant.gathered.below ∙ none)) c.loop-at.invariant.state

pub returns-after-loop-at-clause-cut : goal.returns-after-loop-at-clause-cut
returns-after-loop-at-clause-cut c =
    let lits = c.args.trail.now.lits in
    below_end c.args.clauses.now lits c.args.self.now.base c.loop-at.at (marked_lits c.args.marks.now lits) c.args.self.now.hints.items
    (marked_lits c.loop-at.marks lits) c.loop-at.self.hints.items (omega (arith, c.loop-at-test.false)) c.loop-at.invariant.state
