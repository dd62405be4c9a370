-- Signals, and what bits each of them has.
use Rattle.std.specs.Prelude.{ℕ, ◌+◌, ◌-◌, Bool, List, [], ◌∷◌, ◌++◌, flat_map, Option, Some, None, codes}
use Rattle.std.specs.Fmt.{decimal}
use Rattle.wave_signals.specs.declared.bits.NamedBit.{NamedBit}
use Rattle.wave_signals.specs.declared.signals.Stem.{Stem}
use Rattle.wave_signals.specs.declared.signals.Span.{Span}
use Rattle.wave_signals.specs.declared.signals.Span.TheVariants.{Whole, Up, Down}
use Rattle.wave_signals.specs.declared.signals.Signal.{Signal}

-- an index in its brackets, where there is one
abbrev pub index_text : Option ℕ → List ℕ
index_text None = []
index_text (Some i) = codes "[" ++ (decimal i ++ codes "]")

-- scopes, each with a `/` after it
abbrev pub scopes_text : List (List ℕ) → List ℕ
scopes_text = flat_map (λ scope. scope ++ codes "/")

-- the full name with this index
abbrev pub full_name : Stem → Option ℕ → List ℕ
full_name stem index = scopes_text stem.scopes ++ (stem.front ++ (index_text index ++ stem.back))

-- the index of the bit at a place, from 0
abbrev pub index_in : Span → ℕ → Option ℕ
index_in Whole place = None
index_in (Up first) place = Some (first + place)
index_in (Down first) place = Some (first - place)

-- the bit at a place of a signal, with its values
abbrev pub bit_in : Signal → ℕ → List Bool → NamedBit
bit_in s place values = record { kind = s.kind; name = full_name s.stem (index_in s.span place); values = values }

-- a bit for each item of a list, given its place; places count up from this one
unfoldable pub bits_from : (ℕ → List Bool → NamedBit) → ℕ → List (List Bool) → List NamedBit
bits_from bit place [] = []
bits_from bit place (v ∷ vs) = bit place v ∷ bits_from bit (place + 1) vs

-- the bits of a signal, each by its full name
abbrev pub bits_of : Signal → List NamedBit
bits_of s = bits_from (bit_in s) 0 s.values
