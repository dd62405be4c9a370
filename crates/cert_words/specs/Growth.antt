-- Words of which the last may still grow, and lists of items that fit.
use Rattle.std.specs.Prelude.{ℕ, Bool, true, false, List, [], ◌∷◌, ◌++◌}

-- with more bytes at the end of the last word, and with more words after it, they are words of the kind
abbrev pub Grows : (List (List ℕ) → Type 0) → List (List ℕ) → Type 0
Grows L [] = ⊥
Grows L (p ∷ []) = (w : List ℕ) × (others : List (List ℕ)) × L ((p ++ w) ∷ others)
Grows L (p ∷ (q ∷ ws)) = Grows (λ rest. L (p ∷ rest)) (q ∷ ws)

-- words of a whole line are not of the kind, or words of a line that is cut off do not grow to ones of the kind
abbrev pub Fails : Bool → (List (List ℕ) → Type 0) → List (List ℕ) → Type 0
Fails false L ws = ¬ L ws
Fails true L ws = ¬ Grows L ws

-- each item fits after the one before it
abbrev pub Chain : (ℕ → ℕ → Type 0) → (ℕ → ℕ) → ℕ → List ℕ → Type 0
Chain Fits key above [] = Unit {0}
Chain Fits key above (x ∷ xs) = Fits above x × Chain Fits key (key x) xs
