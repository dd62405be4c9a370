use Rattle.std.proofs.Common.{◌+◌, ◌<◌, arith, length}
use Rattle.net_model.specs.Args.{arg_at}
use Rattle.net_model.specs.FormLaws.{IsOver-weaker}
use Rattle.net_model.specs.Netlist.{IsRegInRange}
use Rattle.net_model.proofs.Settling.{All-at}
use Rattle.net_model.proofs.RegCaptures.{IsOptionOver-weaker}
use Rattle.net_model.proofs.LateReads.{late_read, late_output}
use Rattle.net_sim.proofs.late_captures.capture_last.Goals as goal

pub capture_of-requires-clause-next : goal.capture_of-requires-clause-next
capture_of-requires-clause-next c =
    let reg = c.item-reg.result.now in
    let in_range = All-at (IsRegInRange c.args.design.now) c.args.design.now.regs c.in-Reg.r reg c.item-reg.ensures c.requires.sound.in_range.regs in
    IsOver-weaker (length reg.ins + 1) 7 reg.next (omega arith) in_range.next

pub capture_of-requires-clause-clear : goal.capture_of-requires-clause-clear
capture_of-requires-clause-clear c =
    let reg = c.item-reg.result.now in
    let in_range = All-at (IsRegInRange c.args.design.now) c.args.design.now.regs c.in-Reg.r reg c.item-reg.ensures c.requires.sound.in_range.regs in
    IsOptionOver-weaker (length reg.ins + 1) 7 reg.clear (omega arith) in_range.clear

pub capture_of-requires-clause-preset : goal.capture_of-requires-clause-preset
capture_of-requires-clause-preset c =
    let reg = c.item-reg.result.now in
    let in_range = All-at (IsRegInRange c.args.design.now) c.args.design.now.regs c.in-Reg.r reg c.item-reg.ensures c.requires.sound.in_range.regs in
    IsOptionOver-weaker (length reg.ins + 1) 7 reg.preset (omega arith) in_range.preset

pub layer_pin-requires-clause-nets : goal.layer_pin-requires-clause-nets
layer_pin-requires-clause-nets c =
    λ m le.
    let low = All-at (λ n. n < c.args.design.now.nets) c.args.design.now.outputs c.in-Output.o c.at-net.result c.at-net.ensures
    c.requires.sound.in_range.outputs in
    omega (arith, c.requires.lens m (omega arith))

pub returns-in-Reg : goal.returns-in-Reg
returns-in-Reg c =
    late_read c.args.design.now c.args.claim.now.through c.args.rows.now c.args.claim.now.end c.args.cycle.now c.in-Reg.r c.item-reg.result.now
    c.at-own.result (arg_at c.late_reg_args-args.result) c.capture_of.result c.requires.sound c.in-Reg.is c.item-reg.ensures c.at-own.ensures
    c.late_reg_args-args.ensures c.capture_of.ensures

pub returns-in-Output : goal.returns-in-Output
returns-in-Output c =
    late_output c.args.design.now c.args.claim.now.through c.args.rows.now c.args.claim.now.end c.args.cycle.now c.in-Output.o c.at-net.result
    c.layer_pin.result c.in-Output.is c.at-net.ensures (rw (← c.len.ensures) c.layer_pin.ensures)
