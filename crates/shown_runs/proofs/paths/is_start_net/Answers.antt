use Rattle.std.proofs.Common.{◌∙◌, sym}
use Rattle.shown_runs.proofs.Starting.{reg_start, input_start}
use Rattle.shown_runs.proofs.paths.is_start_net.Goals as goal

pub returns-in-Reg : goal.returns-in-Reg
returns-in-Reg c =
    c.is_out.ensures ∙ sym (reg_start c.args.design.now c.args.start.now c.in-Reg.r c.item.result.now c.args.net c.in-Reg.is c.item.ensures)

pub returns-in-Input : goal.returns-in-Input
returns-in-Input c = sym (input_start c.args.design.now c.args.start.now c.in-Input.i c.at.result c.args.net c.in-Input.is c.at.ensures)
