use Rattle.std.proofs.Common.{◌≡◌, map}
use Rattle.wave_signals.specs.Splits.{bit_of}
use Rattle.wave_signals.proofs.splits.split_bits.Given as goal

abbrev pub invariant-loop-bit : goal.invariant-loop-bit
invariant-loop-bit l = map bit_of l.split.items ≡ l.yielded
