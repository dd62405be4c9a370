-- What a filter keeps, and lists that begin at a place.
use Rattle.std.proofs.Common.{◌≡◌, ℕ, suc, ◌+◌, ◌<◌, ◌≤◌, Bool, true, false, cond, List, [], ◌∷◌, ◌++◌, map, length, take, drop, filter}
use Rattle.std.proofs.Common.{Some, refl, ap, subst, sym, ◌∙◌, arith, inl, inr, add-one}
use Rattle.std.specs.Prelude.{Contains, slice_get, ◌⊎◌}
use Rattle.std.proofs.lemmas.Bool.{both_ways}
use Rattle.std.proofs.lemmas.List.{map-append, take-map, drop-map, take-append-drop, length-append}
use Rattle.std.proofs.lemmas.List.Elements.{Contains-append_left, Contains-append_right, Contains-append_cases}
use Rattle.std.proofs.Math.Seq.{drop-cons}
use Rattle.std.proofs.lemmas.Option.{slice_get_within, get_or_from_slice_get}
use Rattle.net_model.proofs.Members.{In, In-from_Contains, Contains-from_In}
use Rattle.query_model.proofs.Prime.{in_filter, from_filter}

-- what passes stays
pub Contains-filter : {X : Type 0} (p : X → Bool) (xs : List X) (x : X) → Contains xs x → p x ≡ true → Contains (filter p xs) x
Contains-filter p xs x has passes = Contains-from_In (filter p xs) x (in_filter p x xs (In-from_Contains xs x has) passes)

-- what stays was there, and passes
pub Contains-from_filter : {X : Type 0} (p : X → Bool) (xs : List X) (x : X) → Contains (filter p xs) x → Contains xs x × (p x ≡ true)
Contains-from_filter p xs x has =
    let found = from_filter p x xs (In-from_Contains (filter p xs) x has) in (Contains-from_In xs x found.0, found.1)

length_filter : {X : Type 0} (p : X → Bool) (xs : List X) → length (filter p xs) ≤ length xs
length_filter p [] = omega arith
length_filter p (x ∷ xs) = by (p x) (length_filter p xs) where
  by : (b : Bool) → length (filter p xs) ≤ length xs → length (cond b (x ∷ filter p xs) (filter p xs)) ≤ suc (length xs)
  by true less = omega (arith, less)
  by false less = omega (arith, less)

-- where one does not pass, fewer stay
pub filter_fewer : {X : Type 0} (p : X → Bool) (x : X) (xs : List X) → In x xs → p x ≡ false → length (filter p xs) < length xs
filter_fewer p x [] has fails = absurd has
filter_fewer {X} p x (y ∷ ys) has fails = by (p y) refl has (λ later. filter_fewer p x ys later fails) (length_filter p ys) where
  by : (b : Bool) → p y ≡ b → In x (y ∷ ys) → (In x ys → length (filter p ys) < length ys) → length (filter p ys) ≤ length ys
      → length (cond b (y ∷ filter p ys) (filter p ys)) < suc (length ys)
  by true is (inl here) rest less = absurd (both_ways (p x) fails (ap p (sym here) ∙ is))
  by true is (inr later) rest less = omega (arith, rest later)
  by false is has rest less = omega (arith, less)

-- a filter by what a function gives
pub map-filter : {X Y : Type 0} (f : X → Y) (p : Y → Bool) (xs : List X) → map f (filter (λ x. p (f x)) xs) ≡ filter p (map f xs)
map-filter f p [] = refl
map-filter {X} {Y} f p (x ∷ xs) = by (p (f x)) (map-filter f p xs) where
  by : (b : Bool) → map f (filter (λ z. p (f z)) xs) ≡ filter p (map f xs)
      → map f (cond b (x ∷ filter (λ z. p (f z)) xs) (filter (λ z. p (f z)) xs)) ≡ cond b (f x ∷ filter p (map f xs)) (filter p (map f xs))
  by true rest = ap (λ zs. f x ∷ zs) rest
  by false rest = rest

-- the list from a place on, and what comes before it after that
abbrev pub turned : {X : Type 0} → ℕ → List X → List X
turned n xs = drop n xs ++ take n xs

pub map-turned : {X Y : Type 0} (f : X → Y) (n : ℕ) (xs : List X) → map f (turned n xs) ≡ turned n (map f xs)
map-turned f n xs = rw (map-append f (drop n xs) (take n xs), drop-map f n xs, take-map f n xs) refl

pub Contains-turned : {X : Type 0} (n : ℕ) (xs : List X) (x : X) → Contains xs x → Contains (turned n xs) x
Contains-turned n xs x has =
    elim (Contains-append_cases (take n xs) (drop n xs) x (subst (λ ys. Contains ys x) (sym (take-append-drop n xs)) has)) [
      | inl early ↦ Contains-append_right (drop n xs) (take n xs) x early
      | inr late ↦ Contains-append_left (drop n xs) (take n xs) x late
    ]

pub Contains-from_turned : {X : Type 0} (n : ℕ) (xs : List X) (x : X) → Contains (turned n xs) x → Contains xs x
Contains-from_turned n xs x has =
    elim (Contains-append_cases (drop n xs) (take n xs) x has) [
      | inl late ↦ subst (λ ys. Contains ys x) (take-append-drop n xs) (Contains-append_right (take n xs) (drop n xs) x late)
      | inr early ↦ subst (λ ys. Contains ys x) (take-append-drop n xs) (Contains-append_left (take n xs) (drop n xs) x early)
    ]

pub length-turned : {X : Type 0} (n : ℕ) (xs : List X) → length (turned n xs) ≡ length xs
length-turned n xs = omega (arith, length-append (drop n xs) (take n xs), length-append (take n xs) (drop n xs), ap length (take-append-drop n xs))

-- an item of a list stands between those before it and those after it
pub split_at : {X : Type 0} (xs : List X) (n : ℕ) (x : X) → slice_get xs n ≡ Some x → xs ≡ take n xs ++ x ∷ drop (n + 1) xs
split_at xs n x at =
    let low = slice_get_within xs n x at in
    let e : drop n xs ≡ x ∷ drop (n + 1) xs =
    drop-cons xs n x low ∙ ap (λ y. y ∷ drop (suc n) xs) (get_or_from_slice_get xs n x x at) ∙ ap (λ k. x ∷ drop k xs) (sym (add-one n)) in
    sym (take-append-drop n xs) ∙ ap (λ ys. take n xs ++ ys) e

-- an item that is in a list of which one was left out
pub middle_within : {X : Type 0} (xs ys : List X) (x y : X) → Contains (xs ++ ys) y → Contains (xs ++ x ∷ ys) y
middle_within xs ys x y has =
    elim (Contains-append_cases xs ys y has) [
      | inl early ↦ Contains-append_left xs (x ∷ ys) y early
      | inr late ↦ Contains-append_right xs (x ∷ ys) y (Contains-from_In (x ∷ ys) y (inr (In-from_Contains ys y late)))
    ]

pub middle_here : {X : Type 0} (xs ys : List X) (x : X) → Contains (xs ++ x ∷ ys) x
middle_here xs ys x = Contains-append_right xs (x ∷ ys) x (Contains-from_In (x ∷ ys) x (inl refl))

pub middle_cases : {X : Type 0} (xs ys : List X) (x y : X) → Contains (xs ++ x ∷ ys) y → Contains (xs ++ ys) y ⊎ (x ≡ y)
middle_cases xs ys x y has =
    elim (Contains-append_cases xs (x ∷ ys) y has) [
      | inl early ↦ inl (Contains-append_left xs ys y early)
      | inr late ↦ elim (In-from_Contains (x ∷ ys) y late) [
        | inl here ↦ inr here
        | inr later ↦ inl (Contains-append_right xs ys y (Contains-from_In ys y later))
      ]
    ]
