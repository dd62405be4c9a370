use Rattle.std.proofs.Common.{◌∙◌, ◌<◌, ◌&&◌, drop, take, sym, ap}
use Rattle.std.proofs.lemmas.Bool.{and_parts}
use Rattle.std.proofs.lemmas.List.Sorted.{All-permutation}
use Rattle.proof_log.specs.Literals.{lit_var, negated}
use Rattle.proof_log.specs.Clauses.{is_set}
use Rattle.sat_solver.specs.Markings.{is_marked, marked_lits}
use Rattle.sat_solver.proofs.AtConflict.{drop_take}
use Rattle.sat_solver.proofs.CoveredLiterals.{AreBetween-fewer}
use Rattle.sat_solver.proofs.minimising.minimise.Goals as goal

pub places_of-requires : goal.places_of-requires
places_of-requires c = λ l h.
    let cut = c.args.cut.now in
    let lits = c.args.trail.now.lits in
    let b = and_parts (is_set (drop cut.base (take cut.start lits)) (negated l)) (is_marked c.args.marks.now (lit_var l))
    (sym (c.requires.between l) ∙ (ap (λ xs. is_set xs l) (sym c.deref.ensures.value) ∙ h)) in
    (drop_take cut.base cut.start lits (negated l) b.0).1

pub drop_covered-requires-clause-before : goal.drop_covered-requires-clause-before
drop_covered-requires-clause-before c =
    All-permutation (λ n. n < c.args.cut.now.start) c.in_ok-places.places.items c.sort_unstable.new.self.items c.sort_unstable.ensures.permutation
    c.in_ok-places.ensures

pub returns-clause-between : goal.returns-clause-between
returns-clause-between c =
    let cut = c.args.cut.now in
    let lits = c.args.trail.now.lits in
    let now = c.drop_covered.new.marks in
    AreBetween-fewer lits cut.base cut.start c.args.marks.now now cut.lits.items c.in_ok-cut.field-0.items c.in_ok-drop_covered.ensures.fewer
    c.requires.between
    (λ l. c.in_ok-cut.ensures l ∙ ap (λ xs. is_set xs l && is_set (marked_lits now lits) l)
    (c.deref-2.ensures.value ∙ ap (λ v. v.items) c.drop_covered.ensures.lits))
