use Rattle.std.proofs.Common.{◌+◌, ◌<◌, ◌∙◌, ◌++◌, ◌∷◌, [], length, refl, ap, arith}
use Rattle.std.proofs.lemmas.List.{get_or_default}
use Rattle.std.proofs.lemmas.Option.{slice_get_read, slice_get_within}
use Rattle.sat_solver.proofs.Marking.{IsGathered-none, CutState-marked}
use Rattle.sat_solver.proofs.cuts.Cut.mark_conflict.Goals as goal

pub overflow_add-conflict : goal.overflow_add-conflict
overflow_add-conflict c =
    let f = c.requires.conflict in
    omega (arith, slice_get_within c.args.clauses.now c.args.conflict f.0 f.1, c.len-count.ensures.few)

pub clause-requires : goal.clause-requires
clause-requires c = let f = c.requires.conflict in slice_get_within c.args.clauses.now c.args.conflict f.0 f.1

pub mark_false-requires-clause-gathered : goal.mark_false-requires-clause-gathered
mark_false-requires-clause-gathered c =
    rw (c.requires.lits, c.requires.above, c.requires.below)
    (IsGathered-none c.args.trail.now.lits c.args.self.now.base c.args.self.now.start c.clear.new.self c.requires.low c.clear.ensures.none)

pub returns-clause-state : goal.returns-clause-state
returns-clause-state c =
    let clauses = c.args.clauses.now in
    let f = c.requires.conflict in
    let within : c.args.conflict < length clauses = slice_get_within clauses c.args.conflict f.0 f.1 in
    CutState-marked clauses c.args.trail.now.lits c.args.conflict c.clause.result.now c.mark_false.new.self.hints.items c.clear.new.self
    c.mark_false.new.marks f
    (slice_get_read clauses _ c.args.conflict c.clause.result.now refl within
    (c.clause.ensures ∙ get_or_default clauses c.args.conflict [] c.clause.result.now within))
    (ap (λ v. v.items) c.mark_false.ensures.hints ∙ (c.in_ok-push.ensures.items ∙ ap (λ xs. xs ++ (c.args.conflict + 1) ∷ []) c.requires.hints))
    c.clear.ensures.none c.in_ok-mark_false.ensures.marked
