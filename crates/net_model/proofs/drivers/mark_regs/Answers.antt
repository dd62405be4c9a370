use Rattle.net_model.specs.Netlist.{reg_nets}
use Rattle.net_model.proofs.Marking.{adds_flat, twice_flat}
use Rattle.net_model.proofs.drivers.mark_regs.Goals as goal

pub returns-in-Some : goal.returns-in-Some
returns-in-Some c =
    twice_flat reg_nets c.args.design.now.regs c.loop-r.r c.item-reg.result.now c.args.marks.now c.loop-r.marks c.in-Some.net c.item-reg.ensures
    c.loop-r.invariant c.in-Some.ensures

pub loop-r-preserved : goal.loop-r-preserved
loop-r-preserved c =
    adds_flat reg_nets c.args.design.now.regs c.loop-r.r c.item-reg.result.now c.args.marks.now c.loop-r.marks c.mark_outs.new.marks
    c.item-reg.ensures c.in_default.ensures c.loop-r.invariant
