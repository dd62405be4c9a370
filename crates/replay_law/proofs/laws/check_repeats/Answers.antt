use Rattle.replay_law.proofs.Repeating.{checks_again}
use Rattle.replay_law.proofs.laws.check_repeats.Goals as goal

pub returns : goal.returns
returns c files p = checks_again files c.args.options.now p
