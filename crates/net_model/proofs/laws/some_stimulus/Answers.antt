use Rattle.net_model.proofs.Stimulating.{stimulus_exists}
use Rattle.net_model.proofs.laws.some_stimulus.Goals as goal

pub returns : goal.returns
returns c = λ cycles some. stimulus_exists c.args.design.now cycles c.requires some
