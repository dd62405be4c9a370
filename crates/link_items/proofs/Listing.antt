-- Lists that grow at their end.
use Rattle.std.proofs.Common.{◌≡◌, ℕ, zero, suc, ◌+◌, ◌≤◌, List, [], ◌∷◌, ◌++◌, length, take, drop, All, Some, refl, ap, sym, ◌∙◌, arith, append_assoc}
use Rattle.std.proofs.Common.{subst, add-one}
use Rattle.std.proofs.Common.{Bool, true, false, map}
use Rattle.std.specs.Prelude.{Contains, slice_get, fold, flat_map}
use Rattle.std.specs.List.{list_all}
use Rattle.std.proofs.lemmas.List.{take_all, map_more}
use Rattle.std.proofs.lemmas.List.Concat.{flat_map-append}
use Rattle.std.proofs.lemmas.List.Elements.{All-push}
use Rattle.std.proofs.lemmas.List.Folds.{list_all_more, list_all_at}
use Rattle.std.proofs.lemmas.List.Sums.{fold_more}
use Rattle.std.proofs.lemmas.List.{take_more}
use Rattle.std.proofs.lemmas.Option.{slice_get_within, get_or_from_slice_get}

-- one piece more
pub step_more : {X : Type 0} (old now next piece before after : List X) → next ≡ now ++ piece → now ≡ old ++ before → after ≡ before ++ piece
    → next ≡ old ++ after
step_more old now next piece before after made so_far more =
    made ∙ ap (λ xs. xs ++ piece) so_far ∙ append_assoc old before piece ∙ ap (λ xs. old ++ xs) (sym more)

-- the first items and the next
pub take_next : {X : Type 0} (xs : List X) (i : ℕ) (x : X) → slice_get xs i ≡ Some x → take (i + 1) xs ≡ take i xs ++ x ∷ []
take_next xs i x at =
    take_more xs i x (slice_get_within xs i x at) ∙ ap (λ y. take i xs ++ y ∷ []) (get_or_from_slice_get xs i x x at)

drop_suc : {X : Type 0} (xs : List X) (i : ℕ) (x : X) → slice_get xs i ≡ Some x → drop i xs ≡ x ∷ drop (suc i) xs
drop_suc [] i x at = cc
drop_suc (y ∷ ys) zero x at = let same : y ≡ x = cc in ap (λ z. z ∷ ys) same
drop_suc (y ∷ ys) (suc i) x at = drop_suc ys i x at

-- what is left, from the next item on
pub drop_next : {X : Type 0} (xs : List X) (i : ℕ) (x : X) → slice_get xs i ≡ Some x → drop i xs ≡ x ∷ drop (i + 1) xs
drop_next xs i x at = drop_suc xs i x at ∙ ap (λ n. x ∷ drop n xs) (sym (add-one i))

-- nothing is left past the end
pub drop_past : {X : Type 0} (xs : List X) (i : ℕ) → length xs ≤ i → drop i xs ≡ []
drop_past [] zero le = refl
drop_past [] (suc i) le = refl
drop_past (x ∷ xs) zero le = absurd (omega arith)
drop_past (x ∷ xs) (suc i) le = drop_past xs i (omega arith)

-- what stands in a list stands there with more behind it
pub kept_at : {X : Type 0} (xs ys : List X) (k : ℕ) (x : X) → slice_get xs k ≡ Some x → slice_get (xs ++ ys) k ≡ Some x
kept_at [] ys k x at = cc
kept_at (z ∷ zs) ys zero x at = at
kept_at (z ∷ zs) ys (suc k) x at = kept_at zs ys k x at

-- and what is put behind it stands behind it
pub last_at : {X : Type 0} (xs : List X) (y : X) → slice_get (xs ++ y ∷ []) (length xs) ≡ Some y
last_at [] y = refl
last_at (z ∷ zs) y = last_at zs y

-- an item of a list, by its place
pub all_at : {X : Type 0} (P : X → Type 0) (xs : List X) → All P xs → (k : ℕ) (x : X) → slice_get xs k ≡ Some x → P x
all_at P xs all k x at =
    let is = get_or_from_slice_get xs k x x at in subst P is (all k x (slice_get_within xs k x at))

-- and a list by its items
pub all_by : {X : Type 0} (P : X → Type 0) (xs : List X) → ((k : ℕ) (x : X) → slice_get xs k ≡ Some x → P x) → All P xs
all_by P [] each k d lt = absurd (omega arith)
all_by P (x ∷ xs) each zero d lt = each 0 x refl
all_by P (x ∷ xs) each (suc k) d lt = all_by P xs (λ j y at. each (suc j) y at) k d (omega arith)

-- what stands at a place is in the list
pub contains_at : {X : Type 0} (xs : List X) (i : ℕ) (x : X) → slice_get xs i ≡ Some x → Contains xs x
contains_at xs i x at = (i, slice_get_within xs i x at, get_or_from_slice_get xs i x x at)

-- a list with nothing behind it
pub with_none : {X : Type 0} (xs : List X) → xs ++ [] ≡ xs
with_none [] = refl
with_none (x ∷ xs) = ap (λ ys. x ∷ ys) (with_none xs)

-- one item more
pub push_more : {X : Type 0} (list2 list before after : List X) (x y : X) → list2 ≡ list ++ x ∷ [] → list ≡ before → x ≡ y → after ≡ before ++ y ∷ []
    → list2 ≡ after
push_more list2 list before after x y made so_far same more = cc

-- a test that the first items pass, and the next
pub all_next : {X : Type 0} (p : X → Bool) (xs : List X) (k : ℕ) (x : X) → slice_get xs k ≡ Some x → list_all p (take k xs) ≡ true → p x ≡ true
    → list_all p (take (k + 1) xs) ≡ true
all_next p xs k x at before hit =
    list_all_more p xs k x (slice_get_within xs k x at) ∙ rw (before, get_or_from_slice_get xs k x x at) hit

-- and one that an item fails
pub not_all : {X : Type 0} (p : X → Bool) (xs : List X) (k : ℕ) (x : X) → slice_get xs k ≡ Some x → p x ≡ false → list_all p xs ≡ false
not_all p xs k x at miss = list_all_at p xs k x (slice_get_within xs k x at) (ap p (get_or_from_slice_get xs k x x at) ∙ miss)

-- what holds of the first items, and of the next
pub all_more : {X : Type 0} (P : X → Type 0) (xs : List X) (k : ℕ) (x : X) → slice_get xs k ≡ Some x → All P (take k xs) → P x → All P (take (k + 1) xs)
all_more P xs k x at before here = subst (λ ys. All P ys) (sym (take_next xs k x at)) (All-push P (take k xs) x before here)

-- what holds of the first items holds of all, where there are no more
pub all_done : {X : Type 0} (P : X → Type 0) (xs : List X) (k : ℕ) → length xs ≤ k → All P (take k xs) → All P xs
all_done P xs k le all = subst (λ ys. All P ys) (take_all k xs le) all

-- a fold over one item more
pub fold_next : {X Y : Type 0} (f : Y → X → Y) (a : Y) (xs : List X) (k : ℕ) (x : X) → slice_get xs k ≡ Some x
    → fold f a (take (k + 1) xs) ≡ f (fold f a (take k xs)) x
fold_next f a xs k x at =
    fold_more f a xs k x (slice_get_within xs k x at) ∙ ap (λ y. f (fold f a (take k xs)) y) (get_or_from_slice_get xs k x x at)

-- a map over one item more
pub map_next : {X Y : Type 0} (f : X → Y) (xs : List X) (k : ℕ) (x : X) → slice_get xs k ≡ Some x → map f (take (k + 1) xs) ≡ map f (take k xs) ++ f x ∷ []
map_next f xs k x at = map_more f xs k x (slice_get_within xs k x at) ∙ ap (λ y. map f (take k xs) ++ f y ∷ []) (get_or_from_slice_get xs k x x at)

-- lists for one item more, joined
pub flat_next : {X Y : Type 0} (f : X → List Y) (xs : List X) (k : ℕ) (x : X) → slice_get xs k ≡ Some x
    → flat_map f (take (k + 1) xs) ≡ flat_map f (take k xs) ++ f x
flat_next f xs k x at =
    ap (λ ys. flat_map f ys) (take_next xs k x at) ∙ flat_map-append f (take k xs) (x ∷ []) ∙ ap (λ ys. flat_map f (take k xs) ++ ys) (with_none (f x))
