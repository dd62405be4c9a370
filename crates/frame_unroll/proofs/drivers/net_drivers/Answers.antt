use Rattle.std.proofs.Common.{◌∙◌, arith}
use Rattle.frame_unroll.proofs.Driving.{regs_back, drivers_all}
use Rattle.frame_unroll.proofs.drivers.net_drivers.Goals as goal

pub loop-i-preserved : goal.loop-i-preserved
loop-i-preserved c = record {
  len = c.put_outs.ensures.len ∙ c.loop-i.invariant.len;
  shown = regs_back c.args.design.now.regs c.loop-i.drivers c.put_outs.new.drivers c.len-count.result c.loop-i.i c.item.result.now c.loop-i-test.true
      c.item.ensures c.put_outs.ensures.shown c.loop-i.invariant.shown;
}

pub returns : goal.returns
returns c = drivers_all c.args.design.now c.loop-i.drivers c.len-count.result c.loop-i.i c.loop-i.invariant.len (omega arith) c.loop-i.invariant.shown
