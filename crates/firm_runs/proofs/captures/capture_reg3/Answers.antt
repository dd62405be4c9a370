use Rattle.net_model.specs.Args.{arg_at}
use Rattle.firm_runs.proofs.Late3.{reg_over, reg_read3}
use Rattle.firm_runs.proofs.captures.capture_reg3.Goals as goal

pub cell_capture3-requires : goal.cell_capture3-requires
cell_capture3-requires c = reg_over c.args.design.now c.args.r c.item-reg.result.now c.requires.sound c.item-reg.ensures

pub returns : goal.returns
returns c =
    reg_read3 c.args.design.now c.args.cycle.now c.args.r c.item-reg.result.now c.at-own.result (arg_at c.reg_args3-args.result) c.in_ok-value.value
    c.requires.sound c.item-reg.ensures c.at-own.ensures c.reg_args3-args.ensures c.in_ok-value.ensures
