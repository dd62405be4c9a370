use Rattle.wave_signals.proofs.Joining.{joined_bits}
use Rattle.wave_signals.proofs.groups.with_bit.Goals as goal

pub returns : goal.returns
returns c = joined_bits c.args.signal c.args.bit c.args.span c.push.new.self c.requires c.in_ok-push.ensures.ok
