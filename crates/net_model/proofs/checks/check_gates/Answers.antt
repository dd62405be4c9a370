use Rattle.std.proofs.Common.{◌≡◌, Some, arith, below_more}
use Rattle.std.specs.Prelude.{slice_get}
use Rattle.net_model.specs.Netlist.{IsGateInRange}
use Rattle.net_model.specs.declared.netlist.Gate.{Gate}
use Rattle.net_model.proofs.Driving.{all_from_places}
use Rattle.net_model.proofs.checks.check_gates.Goals as goal

pub loop-k-preserved : goal.loop-k-preserved
loop-k-preserved c =
    let d = c.args.design.now in
    below_more (λ j. (g : Gate) → slice_get d.gates j ≡ Some g → IsGateInRange d g) c.loop-k.k c.loop-k.invariant c.in_ok-check_gate.ensures.ok

pub returns-clause-ok : goal.returns-clause-ok
returns-clause-ok c =
    let d = c.args.design.now in
    all_from_places (IsGateInRange d) d.gates (λ k lt g at. c.loop-k.invariant k (omega arith) g at)
