use Rattle.std.proofs.Common.{◌∙◌}
use Rattle.net_model.specs.Args.{arg_at}
use Rattle.net_model.specs.Form.{value}
use Rattle.net_model.specs.Cycles.{reg_capture}
use Rattle.net_model.specs.Completions.{value_reads}
use Rattle.firm_runs.proofs.Late3.{cell_same}
use Rattle.firm_runs.proofs.captures.cell_capture3.Goals as goal

pub apply-requires : goal.apply-requires
apply-requires c = c.in_ok-func.ensures.over 7 c.requires.next c.requires.clear c.requires.preset

pub returns : goal.returns
returns c =
    let over = c.in_ok-func.ensures.over 7 c.requires.next c.requires.clear c.requires.preset in
    c.apply.ensures.value
    ∙ cell_same (value c.in_ok-func.func) (reg_capture c.args.reg.now) (arg_at c.args.args.now) (value_reads 7 c.in_ok-func.func over)
    c.in_ok-func.ensures.value
