use Rattle.link_clocks.proofs.OneJudged.{one_judged}
use Rattle.link_clocks.proofs.laws.judged_is_one.Goals as goal

pub returns : goal.returns
returns c = one_judged
