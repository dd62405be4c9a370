-- Signals of no design.
use Rattle.std.specs.Prelude.{ℕ, true, false, List, [], ◌∷◌, replicate, slice_set}
use Rattle.wave_signals.specs.declared.bits.BitKind.TheVariants.{Wire}
use Rattle.wave_signals.specs.declared.signals.Span.TheVariants.{Whole}
use Rattle.wave_signals.specs.declared.signals.Signal.{Signal}

-- a wire that is 1 in one of so many cycles, and else 0
abbrev pub mark : List ℕ → ℕ → ℕ → Signal
mark name cycle cycles = record {
  kind = Wire;
  stem = record { scopes = []; front = name; back = [] };
  span = Whole;
  values = slice_set (replicate cycles false) cycle true ∷ [];
}
