-- Lines, and texts of which they are made.
use Rattle.std.specs.Prelude.{ℕ, List, [], ◌∷◌, ◌++◌, map, Vec}
use Rattle.std.specs.declared.alloc.Global.{Global}

-- one text, and then another
infixr 5 ◌⁀◌
abbrev pub ◌⁀◌ : List ℕ → List ℕ → List ℕ
first ⁀ next = first ++ next

-- what ends a line
abbrev pub newline : List ℕ
newline = 10 ∷ []

-- the bytes of each line
abbrev pub bytes_of_lines : List (Vec ℕ Global) → List (List ℕ)
bytes_of_lines = map (λ (line : Vec ℕ Global). line.items)
