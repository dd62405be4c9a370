-- What is left of a list from a place on.
use Rattle.std.proofs.Common.{◌≡◌, ◌∙◌, ◌<◌, ◌≤◌, ◌+◌, ◌||◌, Bool, ap, refl, sym, ℕ, List, [], ◌∷◌, map, drop, drop-cons, add-one, get_or, length}
use Rattle.std.specs.List.{list_any}
use Rattle.std.proofs.lemmas.List.{drop_all}

-- a test of what a function makes of the items
pub list_any-map : {X Y : Type 0} (p : X → Bool) (f : Y → X) (ys : List Y) → list_any p (map f ys) ≡ list_any (λ y. p (f y)) ys
list_any-map p f [] = refl
list_any-map p f (y ∷ ys) = ap (λ b. p (f y) || b) (list_any-map p f ys)

-- the next item, and what is left after it
pub map_left : {X Y : Type 0} (f : X → Y) (xs : List X) (i : ℕ) (d : X) → i < length xs → map f (drop i xs) ≡ f (get_or xs i d) ∷ map f (drop (i + 1) xs)
map_left f xs i d below = ap (map f) (drop-cons xs i d below) ∙ ap (λ n. f (get_or xs i d) ∷ map f (drop n xs)) (sym (add-one i))

-- past the end nothing is left
pub none_left : {X Y : Type 0} (f : X → Y) (xs : List X) (i : ℕ) → length xs ≤ i → map f (drop i xs) ≡ []
none_left f xs i past = ap (map f) (drop_all i xs past)
