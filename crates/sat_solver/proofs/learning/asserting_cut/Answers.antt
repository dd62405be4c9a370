use Rattle.std.proofs.Common.{◌≡◌, ◌-◌, ◌∙◌, ℕ, List, length, get_or, reverse, ap, sym, subst, arith}
use Rattle.std.proofs.lemmas.List.{get_or_read}
use Rattle.proof_log.specs.Literals.{negated}
use Rattle.sat_solver.specs.Cuts.{IsAsserting, IsUnitCut, ResolvedBelow, KeepsAsserting}
use Rattle.sat_solver.specs.Markings.{marked_lits, AreBetween}
use Rattle.sat_solver.proofs.AtConflict.{justified_above, justified_base, asserting}
use Rattle.sat_solver.proofs.Marking.{IsAsserting-gathered}
use Rattle.sat_solver.proofs.learning.asserting_cut.Goals as goal

pub resolve_to_unit-requires-clause-justified : goal.resolve_to_unit-requires-clause-justified
resolve_to_unit-requires-clause-justified c = λ i low h.
    justified_above c.args.clauses.now c.args.trail.now c.args.starts.now c.requires.search c.requires.deep i
    (omega (arith, low, c.mark_conflict.ensures.start, c.new-cut.ensures.start)) h

pub resolve_below-requires-clause-justified : goal.resolve_below-requires-clause-justified
resolve_below-requires-clause-justified c = λ i h.
    justified_base c.args.clauses.now c.args.trail.now c.args.starts.now c.requires.search c.requires.deep i
    (omega (arith, h, c.resolve_to_unit.ensures.base, c.mark_conflict.ensures.base, c.new-cut.ensures.base))

pub minimise-requires-clause-between : goal.minimise-requires-clause-between
minimise-requires-clause-between c = c.in_ok-resolve_below.ensures.gathered.between

pub returns-clause-cut : goal.returns-clause-cut
returns-clause-cut c =
    let clauses = c.args.clauses.now in
    let t = c.args.trail.now in
    let lits = t.lits in
    let starts = c.args.starts.now in
    let base = get_or starts 0 0 in
    let start = get_or starts (length starts - 1) 0 in
    let at = c.in_ok-at.at in
    let base_is : c.resolve_to_unit.new.self.base ≡ base =
    c.resolve_to_unit.ensures.base ∙ (c.mark_conflict.ensures.base ∙ c.new-cut.ensures.base) in
    let start_is : c.mark_conflict.new.self.start ≡ start = c.mark_conflict.ensures.start ∙ c.new-cut.ensures.start in
    let first = marked_lits c.resolve_to_unit.new.marks lits in
    let m = c.resolve_below.new.marks in
    let now = c.minimise.new.marks in
    let U : ℕ → Type 0 = λ n. IsUnitCut clauses lits n at first c.resolve_to_unit.new.self.hints.items in
    let R : ℕ → Type 0 = λ n. ResolvedBelow clauses lits n first c.resolve_to_unit.new.self.hints.items (marked_lits m lits)
    c.resolve_below.new.self.hints.items in
    let a = asserting clauses t starts at first c.resolve_to_unit.new.self.hints.items (marked_lits m lits) c.resolve_below.new.self.hints.items
    c.requires.search c.requires.deep c.lits-lits.ensures.distinct (subst U start_is c.in_ok-at.ensures.cut)
    (subst R base_is c.in_ok-resolve_below.ensures.cut) in
    let base_now : c.resolve_below.new.self.base ≡ base = c.resolve_below.ensures.base ∙ base_is in
    let start_now : c.resolve_below.new.self.start ≡ start = c.resolve_below.ensures.start ∙ (c.resolve_to_unit.ensures.start ∙ start_is) in
    let K : ℕ → Type 0 = λ n. KeepsAsserting clauses lits n c.resolve_below.new.self.start (marked_lits m lits) c.resolve_below.new.self.hints.items
    (marked_lits now lits) c.minimise.new.cut.hints.items in
    let L : ℕ → Type 0 = λ n. KeepsAsserting clauses lits base n (marked_lits m lits) c.resolve_below.new.self.hints.items
    (marked_lits now lits) c.minimise.new.cut.hints.items in
    let keeps = subst L start_now (subst K base_now c.in_ok-minimise.ensures.asserting) in
    let some = c.minimise.new.cut.lits.items in
    let G : ℕ → Type 0 = λ n. AreBetween lits n c.resolve_below.new.self.start now some in
    let H : ℕ → Type 0 = λ n. AreBetween lits base n now some in
    let between = subst H start_now (subst G base_now c.in_ok-minimise.ensures.between) in
    let p_is : c.index-lits-at.result ≡ get_or lits at 0 =
    get_or_read c.lits.result.now at c.index-lits-at.result (omega (arith, a.within, ap length c.lits.ensures.value)) c.index-lits-at.is 0
    ∙ ap (λ xs. get_or xs at 0) c.lits.ensures.value in
    let P : List ℕ → Type 0 = IsAsserting clauses lits base start at c.push.new.self.items in
    subst P (sym c.reverse.ensures.items)
    (IsAsserting-gathered clauses lits base start at c.negated.result now some c.push.new.self.items (reverse c.minimise.new.cut.hints.items) between
    (c.negated.ensures ∙ ap negated p_is) c.in_ok-push.ensures.items (keeps at a))
