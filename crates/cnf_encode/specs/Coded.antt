-- Clauses over keys, coded by the numbers of these keys.
use Rattle.std.specs.Prelude.{◌≡◌, ℕ, List, [], ◌∷◌, ◌++◌, map, All, Contains}
use Rattle.query_model.specs.Variables.{code_of, AreNormalsOf}
use Rattle.query_model.specs.declared.keys.Key.{Key}
use Rattle.query_model.specs.declared.keys.KeyLit.{KeyLit}

-- the codes of the literals of clauses over keys
abbrev pub coded : List Key → List (List KeyLit) → List (List ℕ)
coded keys clauses = map (map (code_of keys)) clauses

-- the literal's key is one of the keys
abbrev pub HasKey : List Key → KeyLit → Type 0
HasKey keys l = Contains keys l.key

-- the literal's code, if its key is one of the keys
abbrev pub IsCode : List Key → KeyLit → ℕ → Type 0
IsCode keys l code = HasKey keys l → code ≡ code_of keys l

-- so it is of each of these literals
abbrev pub AreCodes : List Key → List KeyLit → List ℕ → Type 0
AreCodes keys [] [] = Unit {0}
AreCodes keys (l ∷ ls) (code ∷ codes) = IsCode keys l code × AreCodes keys ls codes
AreCodes keys _ _ = ⊥

-- each key of these clauses is one of the keys
abbrev pub HasKeys : List Key → List (List KeyLit) → Type 0
HasKeys keys clauses = All (All (HasKey keys)) clauses

-- after clauses that are the normal forms of some, those of these were added
abbrev pub AddsNormals : List (List ℕ) → List (List ℕ) → List (List ℕ) → Type 0
AddsNormals more old new =
    (before : List (List ℕ)) → AreNormalsOf before old → AreNormalsOf (before ++ more) new

-- the same, where those that were added are over keys
abbrev pub Adds : List Key → List (List KeyLit) → List (List ℕ) → List (List ℕ) → Type 0
Adds keys more old new = AddsNormals (coded keys more) old new
