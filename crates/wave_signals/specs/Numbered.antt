-- What is made of a list's items, which are numbered.
use Rattle.std.specs.Prelude.{ℕ, ◌+◌, List, [], ◌∷◌, ◌++◌}

-- what is made of each item, given its number, one after another; numbers count up from this one
unfoldable pub numbered : {X A : Type 0} → (ℕ → X → List A) → ℕ → List X → List A
numbered made number [] = []
numbered made number (x ∷ xs) = made number x ++ numbered made (number + 1) xs
