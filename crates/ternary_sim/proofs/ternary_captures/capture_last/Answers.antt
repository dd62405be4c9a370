use Rattle.std.proofs.Common.{◌+◌, ◌<◌, arith, length}
use Rattle.net_model.specs.Args.{arg_at}
use Rattle.net_model.specs.FormLaws.{IsOver-weaker}
use Rattle.net_model.specs.Netlist.{IsRegInRange}
use Rattle.net_model.proofs.Settling.{All-at}
use Rattle.net_model.proofs.RegCaptures.{IsOptionOver-weaker}
use Rattle.ternary_sim.proofs.TernaryReads.{ternary_read, ternary_output}
use Rattle.ternary_sim.proofs.ternary_captures.capture_last.Goals as goal

pub cell_capture-requires-clause-next : goal.cell_capture-requires-clause-next
cell_capture-requires-clause-next c =
    let reg = c.item-reg.result.now in
    let in_range = All-at (IsRegInRange c.args.design.now) c.args.design.now.regs c.in-Reg.r reg c.item-reg.ensures c.requires.sound.in_range.regs in
    IsOver-weaker (length reg.ins + 1) 7 reg.next (omega arith) in_range.next

pub cell_capture-requires-clause-clear : goal.cell_capture-requires-clause-clear
cell_capture-requires-clause-clear c =
    let reg = c.item-reg.result.now in
    let in_range = All-at (IsRegInRange c.args.design.now) c.args.design.now.regs c.in-Reg.r reg c.item-reg.ensures c.requires.sound.in_range.regs in
    IsOptionOver-weaker (length reg.ins + 1) 7 reg.clear (omega arith) in_range.clear

pub cell_capture-requires-clause-preset : goal.cell_capture-requires-clause-preset
cell_capture-requires-clause-preset c =
    let reg = c.item-reg.result.now in
    let in_range = All-at (IsRegInRange c.args.design.now) c.args.design.now.regs c.in-Reg.r reg c.item-reg.ensures c.requires.sound.in_range.regs in
    IsOptionOver-weaker (length reg.ins + 1) 7 reg.preset (omega arith) in_range.preset

pub layer_pin-requires-clause-nets : goal.layer_pin-requires-clause-nets
layer_pin-requires-clause-nets c =
    λ m le.
    let low = All-at (λ n. n < c.args.design.now.nets) c.args.design.now.outputs c.in-Output.o c.at-net.result c.at-net.ensures
    c.requires.sound.in_range.outputs in
    omega (arith, c.requires.lens m (omega arith))

pub returns-in-Reg : goal.returns-in-Reg
returns-in-Reg c =
    ternary_read c.args.design.now c.args.claim.now.through c.args.rows.now c.args.claim.now.end c.args.cycle.now c.in-Reg.r c.item-reg.result.now
    c.at-own.result (arg_at c.late_reg_args-args.result) c.cell_capture.result c.requires.sound c.in-Reg.is c.item-reg.ensures c.at-own.ensures
    (rw c.of_bit.ensures at c.late_reg_args-args.ensures) c.cell_capture.ensures

pub returns-in-Output : goal.returns-in-Output
returns-in-Output c =
    ternary_output c.args.design.now c.args.claim.now.through c.args.rows.now c.args.claim.now.end c.args.cycle.now c.in-Output.o c.at-net.result
    c.layer_pin.result c.requires.sound c.in-Output.is c.at-net.ensures (rw (← c.len.ensures) c.layer_pin.ensures)
