use Rattle.link_circuit.proofs.Ported.{inputs_more}
use Rattle.link_circuit.proofs.ports.push_inputs.Goals as goal

pub loop-k-preserved : goal.loop-k-preserved
loop-k-preserved c =
    inputs_more c.args.body.now c.args.clock.now c.args.bits.now c.loop-k.k c.at-net.result c.args.nets.now c.loop-k.nets c.push_input.new.nets
    c.is_clock.result c.at-net.ensures c.is_clock.ensures c.loop-k.invariant c.in_ok-push_input.ensures
