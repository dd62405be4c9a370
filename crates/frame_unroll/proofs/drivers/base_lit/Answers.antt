use Rattle.std.proofs.Common.{◌∙◌, ap, arith, Some}
use Rattle.frame_unroll.specs.declared.drivers.Driver.TheVariants.{Own, Bit}
use Rattle.frame_unroll.proofs.drivers.base_lit.Goals as goal

pub overflow_add-point : goal.overflow_add-point
overflow_add-point c =
    let low = c.requires.drivers.in_range c.args.net (Bit c.in-Bit.reg c.in-Bit.inverted) (c.at.ensures ∙ ap Some c.in-Bit.is) in
    let nets = c.requires.sound.limits.nets in
    let regs = c.requires.sound.limits.regs in
    omega (arith, low, nets, regs)

pub returns-in-Own : goal.returns-in-Own
returns-in-Own c = c.requires.drivers.reads c.args.net Own (c.at.ensures ∙ ap Some c.in-Own.is) c.args.cycle

pub returns-in-Bit : goal.returns-in-Bit
returns-in-Bit c =
    c.requires.drivers.reads c.args.net (Bit c.in-Bit.reg c.in-Bit.inverted) (c.at.ensures ∙ ap Some c.in-Bit.is) c.args.cycle
