use Rattle.replay_law.proofs.Repeating.{replay_due, replays_again}
use Rattle.replay_law.proofs.laws.report_replays.Goals as goal

pub returns-clause-due : goal.returns-clause-due
returns-clause-due c files p = replay_due files c.args.options.now p

pub returns-clause-only : goal.returns-clause-only
returns-clause-only c files p = replays_again files c.args.options.now p
