-- Lines of a kind: a value, whether it fits, and its words.
use Rattle.std.specs.Prelude.{◌≡◌, ℕ, Bool, true, false, List, ◌++◌}
use Rattle.cert_words.specs.Words.{spaced}
use Rattle.cert_words.specs.declared.stops.Stop.{Stop}
use Rattle.cert_words.specs.declared.stops.Stop.TheVariants.{Bad, Early, Memory}

-- the line has the words of the value, one space between them, and the value fits
pub record Spells {V : Type 0} (Fits : V → Type 0) (ws : V → List (List ℕ)) (line : List ℕ) (v : V) : Type 0 where
  pub is : line ≡ spaced (ws v)
  pub fits : Fits v

-- the bytes are the beginning of a line of the kind
pub record Begins {V : Type 0} (Fits : V → Type 0) (ws : V → List (List ℕ)) (piece : List ℕ) : Type 0 where
  pub more : List ℕ
  pub value : V
  pub spells : Spells Fits ws (piece ++ more) value

-- why a line is none of the kind: it breaks the form, or is cut off before it does
abbrev pub IsLineStop : {V : Type 0} → (V → Type 0) → (V → List (List ℕ)) → Bool → List ℕ → Stop → Type 0
IsLineStop {V} Fits ws false line Bad = (v : V) → ¬ Spells Fits ws line v
IsLineStop {V} Fits ws true line Bad = ¬ Begins Fits ws line
IsLineStop {V} Fits ws cut line Early = (cut ≡ true) × Begins Fits ws line
IsLineStop {V} Fits ws cut line Memory = Unit {0}
