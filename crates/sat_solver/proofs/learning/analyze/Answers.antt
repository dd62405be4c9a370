use Rattle.std.proofs.Common.{◌≡◌, ◌-◌, ◌<◌, ◌∙◌, refl, ℕ, List, length, get_or, sym, ap, subst}
use Rattle.std.proofs.lemmas.List.{get_or_read}
use Rattle.proof_log.specs.Literals.{negated}
use Rattle.proof_log.specs.Clauses.{is_set, HasComplements}
use Rattle.sat_solver.specs.Learning.{IsLevel}
use Rattle.sat_solver.specs.Cuts.{IsAsserting}
use Rattle.sat_solver.proofs.AtConflict.{asserting_false, asserting_consistent, asserting_others, learnt_from}
use Rattle.sat_solver.proofs.learning.analyze.Goals as goal

pub unreachable-requires : goal.unreachable-requires
unreachable-requires c =
    let none = rw c.in-None.is at c.in_ok-normal.ensures.none in
    let P : List ℕ → Type 0 = HasComplements in
    asserting_consistent c.args.clauses.now c.args.trail.now.lits _ _ c.in_ok-cut.at c.in_ok-cut.cut.lits.items c.in_ok-cut.cut.hints.items
    c.lits-lits.ensures.distinct c.in_ok-cut.ensures.cut
    (subst P c.deref.ensures.value (none.0 refl))

pub asserting_level-level-requires-clause-falsified : goal.asserting_level-level-requires-clause-falsified
asserting_level-level-requires-clause-falsified c = λ l m.
    let same = rw c.in-Some.is at c.in_ok-normal.ensures.same in
    asserting_false c.args.clauses.now c.args.trail.now.lits _ _ c.in_ok-cut.at c.in_ok-cut.cut.lits.items c.in_ok-cut.cut.hints.items c.in_ok-cut.ensures.cut l
    (sym (ap (λ xs. is_set xs l) c.as_slice.ensures ∙ (same l ∙ ap (λ xs. is_set xs l) c.deref.ensures.value)) ∙ m)

pub asserting_level-level-requires-clause-top : goal.asserting_level-level-requires-clause-top
asserting_level-level-requires-clause-top c = λ l m ne.
    let trail = c.args.trail.now.lits in
    let same = rw c.in-Some.is at c.in_ok-normal.ensures.same in
    let within = c.in_ok-cut.ensures.cut.within in
    let L : List ℕ → Type 0 = λ xs. c.in_ok-cut.at < length xs in
    let u_is : c.negated-unit.result ≡ negated (get_or trail c.in_ok-cut.at 0) =
    c.negated-unit.ensures ∙ ap negated (get_or_read c.lits-lits.result.now c.in_ok-cut.at c.index-lits-at.result
    (subst L (sym c.lits-lits.ensures.value) within) c.index-lits-at.is 0
    ∙ ap (λ xs. get_or xs c.in_ok-cut.at 0) c.lits-lits.ensures.value) in
    asserting_others c.args.clauses.now trail _ _ c.in_ok-cut.at c.in_ok-cut.cut.lits.items c.in_ok-cut.cut.hints.items c.in_ok-cut.ensures.cut l
    (sym (ap (λ xs. is_set xs l) c.as_slice.ensures ∙ (same l ∙ ap (λ xs. is_set xs l) c.deref.ensures.value)) ∙ m)
    (λ e. ne (e ∙ sym u_is))

pub returns-clause-learnt : goal.returns-clause-learnt
returns-clause-learnt c =
    let trail = c.args.trail.now.lits in
    let starts = c.args.starts.now in
    let same = rw c.in-Some.is at c.in_ok-normal.ensures.same in
    let normal = rw c.in-Some.is at c.in_ok-normal.ensures.normal in
    let within = c.in_ok-cut.ensures.cut.within in
    let L : List ℕ → Type 0 = λ xs. c.in_ok-cut.at < length xs in
    let u_is : c.negated-unit.result ≡ negated (get_or trail c.in_ok-cut.at 0) =
    c.negated-unit.ensures ∙ ap negated (get_or_read c.lits-lits.result.now c.in_ok-cut.at c.index-lits-at.result
    (subst L (sym c.lits-lits.ensures.value) within) c.index-lits-at.is 0
    ∙ ap (λ xs. get_or xs c.in_ok-cut.at 0) c.lits-lits.ensures.value) in
    let H : List ℕ → Type 0 = λ hs. IsAsserting c.args.clauses.now trail (get_or starts 0 0) (get_or starts (length starts - 1) 0) c.in_ok-cut.at
    c.in_ok-cut.cut.lits.items hs in
    let V : List ℕ → Type 0 = λ xs. IsLevel trail starts xs c.negated-unit.result c.asserting_level-level.result in
    learnt_from c.args.clauses.now c.args.trail.now starts c.in_ok-cut.cut.lits.items c.in_ok-cut.at c.asserting_level-level.result c.negated-unit.result _
    c.requires.search c.requires.deep c.lits-lits.ensures.distinct c.lits-lits.ensures.in_vars u_is normal
    (λ l. same l ∙ ap (λ xs. is_set xs l) c.deref.ensures.value)
    (subst H (sym c.from_vec.ensures) c.in_ok-cut.ensures.cut)
    (subst V c.as_slice.ensures c.asserting_level-level.ensures)
