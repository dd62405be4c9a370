use Rattle.std.proofs.Common.{arith, ◌∙◌, sym, subst, Option}
use Rattle.net_model.specs.Netlist.{AllBelow, IsRegInRange}
use Rattle.net_model.specs.declared.netlist.Reg.{Reg}
use Rattle.net_model.proofs.Settling.{All-at}
use Rattle.inv_candidates.specs.Leading.{AreAdded, ins_of}
use Rattle.inv_candidates.proofs.Marking.{added_none, pins_more, pins_all}
use Rattle.inv_candidates.proofs.sweeps.mark_pins.Goals as goal

pub loop-k-init : goal.loop-k-init
loop-k-init c = added_none c.args.marks.now

pub mark_all-requires : goal.mark_all-requires
mark_all-requires c =
    let d = c.args.design.now in
    subst (λ n. AllBelow n c.item.result.now.ins) (sym (c.loop-k.invariant.len ∙ c.requires.len))
    (All-at (IsRegInRange d) d.regs c.at.result c.item.result.now c.item.ensures c.requires.sound.in_range.regs).ins

pub loop-k-preserved : goal.loop-k-preserved
loop-k-preserved c =
    pins_more c.args.design.now c.args.regs.now c.loop-k.k c.at.result c.args.marks.now c.loop-k.marks c.mark_all.new.marks c.at.ensures
    c.loop-k.invariant
    (subst (λ (reg : Option Reg). AreAdded (ins_of reg) c.loop-k.marks c.mark_all.new.marks) (sym c.item.ensures) c.mark_all.ensures)

pub returns : goal.returns
returns c = pins_all c.args.design.now c.args.regs.now c.loop-k.k c.args.marks.now c.loop-k.marks (omega arith) c.loop-k.invariant
