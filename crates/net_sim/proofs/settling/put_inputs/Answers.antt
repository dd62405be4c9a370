use Rattle.net_model.proofs.Sources.{inputs_more}
use Rattle.net_sim.proofs.settling.put_inputs.Goals as goal

pub loop-i-preserved : goal.loop-i-preserved
loop-i-preserved c =
    rw c.put.ensures (inputs_more c.args.design.now c.args.ins.now c.loop-i.nets c.loop-i.i c.at-net.result c.at-bit.result c.requires.sound
    c.at-net.ensures c.at-bit.ensures c.loop-i.invariant)
