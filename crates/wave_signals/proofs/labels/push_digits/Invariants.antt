use Rattle.std.proofs.Common.{◌≡◌, ◌++◌, map, take}
use Rattle.wave_signals.specs.Labels as labels
use Rattle.wave_signals.proofs.labels.push_digits.Given as goal

abbrev pub invariant-loop-values : goal.invariant-loop-values
invariant-loop-values l = l.text.items ≡ l.fn.text.items ++ map (labels.digit_at l.cycle) (take l.values-index l.values-items)
