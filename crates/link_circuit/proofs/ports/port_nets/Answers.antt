use Rattle.link_circuit.proofs.Ported.{ports_more}
use Rattle.link_circuit.proofs.ports.port_nets.Goals as goal

pub loop-k-preserved : goal.loop-k-preserved
loop-k-preserved c =
    ports_more c.args.body.now c.args.clock.now c.args.body.now.ports c.loop-k.k c.item.result.now c.loop-k.nets c.push_port.new.nets c.item.ensures
    c.loop-k.invariant c.in_ok-push_port.ensures
