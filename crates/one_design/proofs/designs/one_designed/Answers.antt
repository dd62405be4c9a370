use Rattle.one_design.proofs.Finding.{links_one, designs_one}
use Rattle.one_design.proofs.designs.one_designed.Goals as goal

pub returns-clause-linked : goal.returns-clause-linked
returns-clause-linked c = links_one c.args.texts.now c.args.reset.now

pub returns-clause-designed : goal.returns-clause-designed
returns-clause-designed c = designs_one c.args.texts.now c.args.reset.now c.args.judging
