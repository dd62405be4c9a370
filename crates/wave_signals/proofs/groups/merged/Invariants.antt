use Rattle.std.proofs.Common.{◌≡◌, map}
use Rattle.std.specs.Prelude.{flat_map}
use Rattle.wave_signals.specs.Signals.{bits_of}
use Rattle.wave_signals.specs.Splits.{bit_of}
use Rattle.wave_signals.proofs.groups.merged.Given as goal

abbrev pub invariant-loop-bit : goal.invariant-loop-bit
invariant-loop-bit l = flat_map bits_of l.signals.items ≡ map bit_of l.yielded
