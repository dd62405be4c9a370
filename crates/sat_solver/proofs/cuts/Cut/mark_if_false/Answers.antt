use Rattle.std.proofs.Common.{◌≡◌, true, rules}
use Rattle.proof_log.specs.Literals.{negated}
use Rattle.proof_log.specs.Clauses.{is_set}
use Rattle.sat_solver.proofs.Marking.{mark_added}
use Rattle.sat_solver.proofs.cuts.Cut.mark_if_false.Goals as goal

pub returns-clause-marked : goal.returns-clause-marked
returns-clause-marked c =
    let there : is_set c.args.trail.now.lits (negated c.args.l) ≡ true = search rules in
    mark_added c.args.trail.now.lits c.args.marks.now c.mark_one.new.marks c.args.l c.lits-lits.ensures.distinct there c.mark_one.ensures.marked
