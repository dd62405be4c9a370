use Rattle.sdcv_top.proofs.Whole.{as_judged}
use Rattle.sdcv_top.proofs.laws.tells_as_judged.Goals as goal

pub returns : goal.returns
returns c = as_judged c.args.designed.now c.args.options.now
