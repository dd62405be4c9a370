-- Lists of names, each a list of bytes.
use Rattle.std.specs.Prelude.{ℕ, Bool, true, not, ◌&&◌, if◌then◌else◌, List, [], ◌∷◌, ◌++◌, fold}
use Rattle.std.specs.List.{list_any, list_all, position_or_len}
use Rattle.std.specs.Str.{bytes_eq}

-- the name stands among these
abbrev pub is_among : List ℕ → List (List ℕ) → Bool
is_among n names = list_any (bytes_eq n) names

-- the place at which the name first stands, and the number of the names where it is not among them
abbrev pub place_of : List ℕ → List (List ℕ) → ℕ
place_of n names = position_or_len (bytes_eq n) names

-- no two of these names are equal
unfoldable pub are_distinct : List (List ℕ) → Bool
are_distinct [] = true
are_distinct (x ∷ xs) = not (is_among x xs) && are_distinct xs

-- no two of the further names are equal, and none is among the names
abbrev pub are_new : List (List ℕ) → List (List ℕ) → Bool
are_new names more = are_distinct more && list_all (λ n. not (is_among n names)) more

-- the names, with this one last where it is not among them
abbrev pub with_name : List (List ℕ) → List ℕ → List (List ℕ)
with_name names n = if is_among n names then names else names ++ n ∷ []

-- the names, with each further one last where it is not among those before it
abbrev pub with_names : List (List ℕ) → List (List ℕ) → List (List ℕ)
with_names names more = fold with_name names more

-- each of these names once, in the order in which they first stand
abbrev pub each_once : List (List ℕ) → List (List ℕ)
each_once names = with_names [] names
