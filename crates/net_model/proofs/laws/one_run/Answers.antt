use Rattle.net_model.proofs.OneRun.{has_one_run}
use Rattle.net_model.proofs.laws.one_run.Goals as goal

pub returns : goal.returns
returns c = has_one_run c.args.design.now c.args.stimulus.now c.requires.sound c.requires.lawful
