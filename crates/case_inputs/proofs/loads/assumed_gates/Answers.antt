use Rattle.case_inputs.specs.Assumed.{assumed_gate}
use Rattle.case_inputs.proofs.Parts.{first_more}
use Rattle.case_inputs.proofs.loads.assumed_gates.Goals as goal

pub loop-k-preserved : goal.loop-k-preserved
loop-k-preserved c =
    first_more (assumed_gate c.args.ties.now.nets c.args.ties.now.sets) c.args.gates.now c.loop-k.k c.item.result.now c.loop-k.list c.push.new.self
    c.in_ok-assumed_gate.field-0 c.item.ensures c.loop-k.invariant c.in_ok-assumed_gate.ensures c.in_ok-push.ensures.ok
