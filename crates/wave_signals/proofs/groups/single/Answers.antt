use Rattle.wave_signals.proofs.Joining.{single_bit}
use Rattle.wave_signals.proofs.groups.single.Goals as goal

pub returns : goal.returns
returns c = single_bit c.args.bit c.span_of.result c.in_ok-one.field-0 c.span_of.ensures c.in_ok-one.ensures
