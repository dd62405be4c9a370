use Rattle.std.proofs.Common.{◌+◌, arith, length}
use Rattle.net_model.specs.Args.{arg_at}
use Rattle.net_model.specs.FormLaws.{IsOver-weaker}
use Rattle.net_model.specs.Netlist.{IsRegInRange}
use Rattle.net_model.proofs.Settling.{All-at}
use Rattle.net_model.proofs.RegCaptures.{IsOptionOver-weaker, capture_read}
use Rattle.net_sim.proofs.captures.capture_reg.Goals as goal

pub capture_of-requires-clause-next : goal.capture_of-requires-clause-next
capture_of-requires-clause-next c =
    let reg = c.item-reg.result.now in
    let in_range = All-at (IsRegInRange c.args.design.now) c.args.design.now.regs c.args.r reg c.item-reg.ensures c.requires.sound.in_range.regs in
    IsOver-weaker (length reg.ins + 1) 7 reg.next (omega arith) in_range.next

pub capture_of-requires-clause-clear : goal.capture_of-requires-clause-clear
capture_of-requires-clause-clear c =
    let reg = c.item-reg.result.now in
    let in_range = All-at (IsRegInRange c.args.design.now) c.args.design.now.regs c.args.r reg c.item-reg.ensures c.requires.sound.in_range.regs in
    IsOptionOver-weaker (length reg.ins + 1) 7 reg.clear (omega arith) in_range.clear

pub capture_of-requires-clause-preset : goal.capture_of-requires-clause-preset
capture_of-requires-clause-preset c =
    let reg = c.item-reg.result.now in
    let in_range = All-at (IsRegInRange c.args.design.now) c.args.design.now.regs c.args.r reg c.item-reg.ensures c.requires.sound.in_range.regs in
    IsOptionOver-weaker (length reg.ins + 1) 7 reg.preset (omega arith) in_range.preset

pub returns : goal.returns
returns c =
    capture_read c.args.design.now c.args.cycle.now c.args.r c.item-reg.result.now c.at-own.result
    (arg_at c.reg_args-args.result) c.capture_of.result c.requires.sound c.item-reg.ensures c.at-own.ensures c.reg_args-args.ensures
    c.capture_of.ensures
