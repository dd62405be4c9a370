use Rattle.sdcv_top.proofs.Repeats.{repeats}
use Rattle.sdcv_top.proofs.laws.check_repeats.Goals as goal

pub returns : goal.returns
returns c = repeats c.args.designed.now c.args.options.now
