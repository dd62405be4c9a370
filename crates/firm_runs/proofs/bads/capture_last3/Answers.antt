use Rattle.std.proofs.Common.{◌<◌, arith}
use Rattle.net_model.specs.Args.{arg_at}
use Rattle.net_model.proofs.Settling.{All-at}
use Rattle.firm_runs.proofs.Late3.{reg_over, late_read3, late_output3}
use Rattle.firm_runs.proofs.bads.capture_last3.Goals as goal

pub cell_capture3-requires : goal.cell_capture3-requires
cell_capture3-requires c = reg_over c.args.design.now c.in-Reg.r c.item-reg.result.now c.requires.sound c.item-reg.ensures

pub layer_pin-requires-clause-nets : goal.layer_pin-requires-clause-nets
layer_pin-requires-clause-nets c =
    λ m le.
    let low = All-at (λ n. n < c.args.design.now.nets) c.args.design.now.outputs c.in-Output.o c.at-net.result c.at-net.ensures
    c.requires.sound.in_range.outputs in
    omega (arith, c.requires.lens m (omega arith))

pub returns-in-Output : goal.returns-in-Output
returns-in-Output c =
    late_output3 c.args.design.now c.args.claim.now.through c.args.rows.now c.args.claim.now.end c.args.cycle.now c.in-Output.o c.at-net.result
    c.layer_pin.result c.in-Output.is c.at-net.ensures (rw (← c.len.ensures) c.layer_pin.ensures)

pub returns-in_ok-value-in-Reg : goal.returns-in_ok-value-in-Reg
returns-in_ok-value-in-Reg c =
    late_read3 c.args.design.now c.args.claim.now.through c.args.rows.now c.args.claim.now.end c.args.cycle.now c.in-Reg.r c.item-reg.result.now
    c.at-own.result (arg_at c.late_reg_args-args.result) c.in_ok-value-in-Reg.value c.requires.sound c.in-Reg.is c.item-reg.ensures c.at-own.ensures
    c.late_reg_args-args.ensures c.in_ok-value-in-Reg.ensures
