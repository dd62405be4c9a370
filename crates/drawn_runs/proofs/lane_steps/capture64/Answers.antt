use Rattle.std.proofs.Common.{◌+◌, arith, length}
use Rattle.net_model.specs.Args.{arg_at}
use Rattle.net_model.specs.FormLaws.{IsOver-weaker}
use Rattle.net_model.specs.LaneBits.{lane, lane_cycle}
use Rattle.net_model.specs.Netlist.{IsRegInRange}
use Rattle.net_model.proofs.Settling.{All-at}
use Rattle.net_model.proofs.RegCaptures.{IsOptionOver-weaker, capture_read}
use Rattle.drawn_runs.proofs.Stepping.{row_place}
use Rattle.drawn_runs.proofs.lane_steps.capture64.Goals as goal

pub lanes_capture-requires-clause-next : goal.lanes_capture-requires-clause-next
lanes_capture-requires-clause-next c =
    let reg = c.item-reg.result.now in
    let in_range = All-at (IsRegInRange c.args.design.now) c.args.design.now.regs c.args.r reg c.item-reg.ensures c.requires.sound.in_range.regs in
    IsOver-weaker (length reg.ins + 1) 7 reg.next (omega arith) in_range.next

pub lanes_capture-requires-clause-clear : goal.lanes_capture-requires-clause-clear
lanes_capture-requires-clause-clear c =
    let reg = c.item-reg.result.now in
    let in_range = All-at (IsRegInRange c.args.design.now) c.args.design.now.regs c.args.r reg c.item-reg.ensures c.requires.sound.in_range.regs in
    IsOptionOver-weaker (length reg.ins + 1) 7 reg.clear (omega arith) in_range.clear

pub lanes_capture-requires-clause-preset : goal.lanes_capture-requires-clause-preset
lanes_capture-requires-clause-preset c =
    let reg = c.item-reg.result.now in
    let in_range = All-at (IsRegInRange c.args.design.now) c.args.design.now.regs c.args.r reg c.item-reg.ensures c.requires.sound.in_range.regs in
    IsOptionOver-weaker (length reg.ins + 1) 7 reg.preset (omega arith) in_range.preset

pub returns : goal.returns
returns c =
    λ i lt ins.
    let bits = c.args.bits.now in
    capture_read c.args.design.now (lane_cycle i bits ins c.args.nets.now) c.args.r c.item-reg.result.now (lane c.at-own.result i)
    (λ place. lane (arg_at c.reg_args64-args.result place) i) (lane c.lanes_capture.result i) c.requires.sound c.item-reg.ensures
    (row_place i bits c.args.r c.at-own.result c.at-own.ensures) (λ place low. c.reg_args64-args.ensures i lt place low)
    (c.lanes_capture.ensures i lt)
