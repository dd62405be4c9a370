-- How a signal is shown in a text.
use Rattle.std.specs.Prelude.{ℕ, ◌+◌, ◌-◌, ◌==◌, Bool, false, if◌then◌else◌, List, [], ◌++◌, length, map, slice_index_or, codes}
use Rattle.std.specs.Fmt.{decimal}
use Rattle.wave_signals.specs.declared.signals.Span.{Span}
use Rattle.wave_signals.specs.declared.signals.Span.TheVariants.{Whole, Up, Down}
use Rattle.wave_signals.specs.declared.signals.Signal.{Signal}
use Rattle.wave_signals.specs.Signals.{scopes_text}

-- the first and the last index of a range, or the only one
abbrev pub bounds : ℕ → ℕ → List ℕ
bounds first last = codes "[" ++ (decimal first ++ ((if first == last then [] else codes ":" ++ decimal last) ++ codes "]"))

-- the indices of so many bits
abbrev pub range_of : Span → ℕ → List ℕ
range_of Whole count = []
range_of (Up first) count = bounds first (first + (count - 1))
range_of (Down first) count = bounds first (first - (count - 1))

abbrev pub range : Signal → List ℕ
range s = range_of s.span (length s.values)

-- the full name with the indices
abbrev pub label : Signal → List ℕ
label s = scopes_text s.stem.scopes ++ (s.stem.front ++ (range s ++ s.stem.back))

-- a bit's value in a cycle
abbrev pub value_at : ℕ → List Bool → Bool
value_at cycle values = slice_index_or values cycle false

-- that value as the digit 0 or 1
abbrev pub digit_at : ℕ → List Bool → ℕ
digit_at cycle values = if value_at cycle values then 49 else 48

-- a digit for each bit of a signal
abbrev pub digits : Signal → ℕ → List ℕ
digits s cycle = map (digit_at cycle) s.values
