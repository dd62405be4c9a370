use Rattle.net_model.specs.Faults.{GatePins, OfGate}
use Rattle.net_model.proofs.checks.check_gate.Goals as goal

pub returns-in-Some-clause-err : goal.returns-in-Some-clause-err
returns-in-Some-clause-err c = GatePins c.args.k c.item-gate.result.now c.item-gate.ensures (rw (← c.len.ensures) c.in-Some.ensures)

pub returns-in-Some-gate_beyond-clause-err : goal.returns-in-Some-gate_beyond-clause-err
returns-in-Some-gate_beyond-clause-err c = OfGate c.args.k c.item-gate.result.now c.item-gate.ensures c.in-Some-gate_beyond.ensures
