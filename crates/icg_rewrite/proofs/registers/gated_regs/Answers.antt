use Rattle.std.proofs.Common.{◌∙◌}
use Rattle.icg_rewrite.proofs.Lists.{one_more_reg}
use Rattle.icg_rewrite.proofs.registers.gated_regs.Goals as goal

pub loop-r-preserved : goal.loop-r-preserved
loop-r-preserved c =
    c.in_ok-push.ensures.ok
    ∙ one_more_reg c.args.gated.now.design.nets c.args.gated.now.design.regs c.args.gated.now.of c.loop-r.r c.item.result.now c.at.result c.loop-r.regs
    c.in_ok-reg.reg c.loop-r.invariant c.item.ensures c.at.ensures c.in_ok-reg.ensures
