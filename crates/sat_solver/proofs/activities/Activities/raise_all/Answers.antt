use Rattle.std.proofs.Common.{ap, ◌∙◌, arith}
use Rattle.std.proofs.lemmas.List.{get_or_read}
use Rattle.proof_log.specs.Clauses.{is_set}
use Rattle.proof_log.proofs.Members.{is_set-at}
use Rattle.sat_solver.proofs.activities.Activities.raise_all.Goals as goal

pub raise-requires : goal.raise-requires
raise-requires c =
    let lits = c.args.lits.now in
    let v = c.requires c.l-item.result (ap (is_set lits) (get_or_read lits c.loop-l.l-index c.l-item.result (omega arith) c.l-item.is 0)
    ∙ is_set-at lits c.loop-l.l-index (omega arith)) in
    omega (arith, v.1, c.var.ensures.value, c.loop-l.invariant.vars)
