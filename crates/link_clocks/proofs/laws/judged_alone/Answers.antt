use Rattle.link_clocks.proofs.OneJudged.{judged_whole, judged_own}
use Rattle.link_clocks.proofs.laws.judged_alone.Goals as goal

pub returns-clause-whole : goal.returns-clause-whole
returns-clause-whole c = judged_whole

pub returns-clause-own : goal.returns-clause-own
returns-clause-own c = judged_own
