-- What is left of a list.
use Rattle.std.proofs.Common.{◌≡◌, ℕ, zero, suc, ◌+◌, ◌≤◌, min, Bool, cond, List, [], ◌∷◌, ◌++◌, length, take, map, Some, ap, ◌∙◌, arith}
use Rattle.std.specs.Prelude.{slice_get, flat_map, filter, zip, if◌then◌else◌}
use Rattle.std.proofs.lemmas.List.{map-append, take_all}
use Rattle.std.proofs.lemmas.List.Concat.{flat_map-append}
use Rattle.std.proofs.lemmas.List.Elements.{filter_more}
use Rattle.link_items.proofs.Listing.{flat_next}
use Rattle.std.proofs.lemmas.Option.{slice_get_within, get_or_from_slice_get}

-- one item more
pub filter_next : {X : Type 0} (p : X → Bool) (xs : List X) (k : ℕ) (x : X) → slice_get xs k ≡ Some x
    → filter p (take (k + 1) xs) ≡ filter p (take k xs) ++ (if p x then (x ∷ []) else [])
filter_next p xs k x at =
    filter_more p xs k x (slice_get_within xs k x at)
    ∙ ap (λ y. filter p (take k xs) ++ cond (p y) (y ∷ []) []) (get_or_from_slice_get xs k x x at)

-- a map over what passes, with one more
pub map_filter_next : {X Y : Type 0} (f : X → Y) (p : X → Bool) (xs : List X) (k : ℕ) (x : X) → slice_get xs k ≡ Some x
    → map f (filter p (take (k + 1) xs)) ≡ map f (filter p (take k xs)) ++ map f (if p x then (x ∷ []) else [])
map_filter_next f p xs k x at =
    ap (λ ys. map f ys) (filter_next p xs k x at) ∙ map-append f (filter p (take k xs)) (if p x then (x ∷ []) else [])

-- lists for what passes, with one more
pub flat_filter_next : {X Y : Type 0} (f : X → List Y) (p : X → Bool) (xs : List X) (k : ℕ) (x : X) → slice_get xs k ≡ Some x
    → flat_map f (filter p (take (k + 1) xs)) ≡ flat_map f (filter p (take k xs)) ++ flat_map f (if p x then (x ∷ []) else [])
flat_filter_next f p xs k x at =
    ap (λ ys. flat_map f ys) (filter_next p xs k x at) ∙ flat_map-append f (filter p (take k xs)) (if p x then (x ∷ []) else [])

-- a pair stands where its parts do
zip_get : {X Y : Type 0} (xs : List X) (ys : List Y) (k : ℕ) (x : X) (y : Y) → slice_get xs k ≡ Some x → slice_get ys k ≡ Some y
    → slice_get (zip xs ys) k ≡ Some (x, y)
zip_get [] ys k x y at there = cc
zip_get (a ∷ xs) [] k x y at there = cc
zip_get (a ∷ xs) (b ∷ ys) zero x y at there =
    let first : a ≡ x = cc in let second : b ≡ y = cc in ap (λ z. Some (z, b)) first ∙ ap (λ z. Some (x, z)) second
zip_get (a ∷ xs) (b ∷ ys) (suc k) x y at there = zip_get xs ys k x y at there

-- there are no more pairs than items of either list
zip_short : {X Y : Type 0} (xs : List X) (ys : List Y) → (length (zip xs ys) ≤ length xs) × (length (zip xs ys) ≤ length ys)
zip_short [] ys = (omega arith, omega arith)
zip_short (a ∷ xs) [] = (omega arith, omega arith)
zip_short (a ∷ xs) (b ∷ ys) = let (left, right) = zip_short xs ys in (omega (arith, left), omega (arith, right))

-- lists for pairs, with one more
pub flat_zip_next : {X Y Z : Type 0} (f : X × Y → List Z) (xs : List X) (ys : List Y) (k : ℕ) (x : X) (y : Y) → slice_get xs k ≡ Some x
    → slice_get ys k ≡ Some y → flat_map f (take (k + 1) (zip xs ys)) ≡ flat_map f (take k (zip xs ys)) ++ f (x, y)
flat_zip_next f xs ys k x y at there = flat_next f (zip xs ys) k (x, y) (zip_get xs ys k x y at there)

-- all pairs are taken where either list has no more
pub flat_zip_all : {X Y Z : Type 0} (f : X × Y → List Z) (xs : List X) (ys : List Y) (k : ℕ) → min (length xs) (length ys) ≤ k
    → flat_map f (take k (zip xs ys)) ≡ flat_map f (zip xs ys)
flat_zip_all f xs ys k past =
    let (left, right) = zip_short xs ys in ap (λ ps. flat_map f ps) (take_all k (zip xs ys) (omega (arith, left, right)))
