use Rattle.one_design.proofs.Selecting.{one_selection}
use Rattle.one_design.proofs.selections.one_selection.Goals as goal

pub returns : goal.returns
returns c = one_selection c.args.linked.now c.args.script.now c.args.judging
