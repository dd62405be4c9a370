use Rattle.std.proofs.Common.{◌≡◌, ◌≢◌, Some}
use Rattle.std.specs.Prelude.{slice_get}
use Rattle.std.proofs.lemmas.Result.{IfErr-weaker}
use Rattle.net_model.specs.Queries.{clause_query}
use Rattle.net_model.specs.declared.invariants.InvClause.{InvClause}
use Rattle.rup_check.specs.Faults.{IsFirstFault}
use Rattle.rup_check.specs.declared.faults.CheckFault.{CheckFault}
use Rattle.rup_check.specs.declared.faults.CheckFault.TheVariants.{Memory}
use Rattle.cert_defs.specs.Refused.{HasFault}
use Rattle.cert_check.proofs.Refuted.{refutes_of, fault_of}
use Rattle.cert_check.proofs.refuting.refute_clause.Goals as goal

pub returns-clause-refutes : goal.returns-clause-refutes
returns-clause-refutes c ok clause at =
    refutes_of c.args.design.now.coding (clause_query c.args.design.now.design c.args.kept.now clause c.args.asked.phase c.args.asked.depth)
    c.in_ok-problem.problem c.args.derivation.now
    (c.in_ok-problem.ensures.exact clause at) (c.check.ensures.refutes ok)

pub returns-clause-fault : goal.returns-clause-fault
returns-clause-fault c =
    let d = c.args.design.now.design in
    let kept = c.args.kept.now in
    let phase = c.args.asked.phase in
    let depth = c.args.asked.depth in
    let problem = c.in_ok-problem.problem in
    let derivation = c.args.derivation.now in
    IfErr-weaker c.check.result (λ (e : CheckFault). e ≢ Memory → IsFirstFault problem.formula derivation e)
    (λ (e : CheckFault). e ≢ Memory → (clause : InvClause) → slice_get kept c.args.place ≡ Some clause
    → HasFault c.args.design.now.coding (clause_query d kept clause phase depth) derivation e)
    (λ e first told clause at. fault_of c.args.design.now.coding (clause_query d kept clause phase depth) problem derivation e
    (c.in_ok-problem.ensures.exact clause at) (first told))
    c.check.ensures.fault
