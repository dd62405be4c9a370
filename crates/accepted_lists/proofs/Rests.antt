-- What is left of a list from a place on.
use Rattle.std.proofs.Common.{◌≡◌, ◌∙◌, ◌<◌, ◌≤◌, ◌+◌, ◌==◌, ap, sym, Bool, ℕ, List, [], ◌∷◌, map, drop, drop-cons, add-one, get_or, length}
use Rattle.std.proofs.lemmas.List.{drop_all, length-map}

-- the next item, and what is left after it
pub map_left : {X Y : Type 0} (f : X → Y) (xs : List X) (i : ℕ) (d : X) → i < length xs → map f (drop i xs) ≡ f (get_or xs i d) ∷ map f (drop (i + 1) xs)
map_left f xs i d below = ap (map f) (drop-cons xs i d below) ∙ ap (λ n. f (get_or xs i d) ∷ map f (drop n xs)) (sym (add-one i))

-- past the end nothing is left
pub none_left : {X Y : Type 0} (f : X → Y) (xs : List X) (i : ℕ) → length xs ≤ i → map f (drop i xs) ≡ []
none_left f xs i past = ap (map f) (drop_all i xs past)

-- whether nothing is left tells whether nothing is of what it stands for
pub none_after : {X Y : Type 0} (f : X → Y) (xs : List X) (left : List Y) (none : Bool) → map f xs ≡ left → none ≡ (length xs == 0) → (length left == 0) ≡ none
none_after f xs left none is test = ap (λ ys. length ys == 0) (sym is) ∙ ap (λ (n : ℕ). n == 0) (length-map xs f) ∙ sym test
