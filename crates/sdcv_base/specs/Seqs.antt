-- Lists: bits as marks of numbers, and what is made of a list item by item.
use Rattle.std.specs.Prelude.{ℕ, ◌+◌, Bool, true, false, List, [], ◌∷◌, ◌++◌, Option, Some, None, slice_index_or}

-- whether a number is marked
abbrev pub is_marked : List Bool → ℕ → Bool
is_marked marks n = slice_index_or marks n false

-- what a function gives for each item and its place, joined in order
abbrev pub each_at : {A B : Type 0} → (ℕ → A → List B) → ℕ → List A → List B
each_at f place [] = []
each_at f place (x ∷ xs) = f place x ++ each_at f (place + 1) xs

-- the list of what there is
abbrev pub option_list : {A : Type 0} → Option A → List A
option_list None = []
option_list (Some x) = x ∷ []

-- the list of an item, where it is wanted
abbrev pub where_true : {A : Type 0} → Bool → A → List A
where_true true x = x ∷ []
where_true false x = []
