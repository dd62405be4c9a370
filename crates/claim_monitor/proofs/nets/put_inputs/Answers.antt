use Rattle.claim_monitor.proofs.NetLits.{input_nets_none, input_nets_more}
use Rattle.claim_monitor.proofs.nets.put_inputs.Goals as goal

pub loop-input-init : goal.loop-input-init
loop-input-init c = input_nets_none c.args.design.now c.args.ins.now c.args.nets.now c.requires.len

pub loop-input-preserved : goal.loop-input-preserved
loop-input-preserved c =
    rw c.put.ensures (input_nets_more c.args.design.now c.args.ins.now c.args.nets.now c.loop-input.nets c.loop-input.input c.at-net.result
    c.at-literal.result c.requires.sound c.at-net.ensures c.at-literal.ensures c.loop-input.invariant)
