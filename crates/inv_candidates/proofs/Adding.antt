-- Lists to which more is added, each item once.
use Rattle.std.proofs.Common.{arith, ◌≡◌, ℕ, zero, suc, ◌+◌, ◌-◌, ◌<◌, ◌≤◌, List, [], ◌∷◌, ◌++◌, length, take, drop}
use Rattle.std.proofs.Common.{append_assoc, append-nil, get_or, Some, Contains, inl, inr, refl, sym, ap, subst, ◌∙◌, slice_get, flat_map, All}
use Rattle.std.proofs.lemmas.List.Elements.{All-push, All-head, All-tail, Contains-append_left, Contains-append_cases, Contains-push}
use Rattle.std.proofs.lemmas.List.{take_more, take_all, drop_more, drop_all, flat_map_more}
use Rattle.std.specs.Prelude.{slice_index}
use Rattle.std.proofs.lemmas.Option.{slice_get_within, get_or_from_slice_get}
use Rattle.inv_candidates.specs.Clauses.{pair_clauses, all_pairs}
use Rattle.inv_candidates.specs.Listing.{AddsNew, No_more, Stands, Is_new}

only_item : {A : Type 0} (x y : A) → Contains (x ∷ []) y → x ≡ y
only_item x y (zero, below, is) = is
only_item x y (suc i, below, is) = absurd (omega (arith, below))

-- some, and then others
pub adds_both : {A : Type 0} (old xs mid ys new : List A) → AddsNew old xs mid → AddsNew mid ys new → AddsNew old (xs ++ ys) new
adds_both _ _ _ ys new (No_more listed) second = second
adds_both _ _ _ ys new (Stands listed x more all has first) second = Stands listed x (more ++ ys) new has (adds_both listed more all ys new first second)
adds_both _ _ _ ys new (Is_new listed x more all fresh first) second =
    Is_new listed x (more ++ ys) new fresh (adds_both (listed ++ x ∷ []) more all ys new first second)

-- what holds of all that was listed and is added holds of all that is listed
pub adds_all : {A : Type 0} (P : A → Type 0) (old xs new : List A) → AddsNew old xs new → All P old → All P xs → All P new
adds_all P _ _ _ (No_more listed) all more = all
adds_all P _ _ _ (Stands listed x xs new has rest) all more = adds_all P listed xs new rest all (All-tail P x xs more)
adds_all P _ _ _ (Is_new listed x xs new fresh rest) all more =
    adds_all P (listed ++ x ∷ []) xs new rest (All-push P listed x all (All-head P x xs more)) (All-tail P x xs more)

-- one more item's part
pub adds_more : {A X : Type 0} (f : X → List A) (xs : List X) (k : ℕ) (x : X) (old mid new : List A) → slice_get xs k ≡ Some x
    → AddsNew old (flat_map f (take k xs)) mid → AddsNew mid (f x) new → AddsNew old (flat_map f (take (k + 1) xs)) new
adds_more {A} {X} f xs k x old mid new at first second =
    let more : take (k + 1) xs ≡ take k xs ++ x ∷ [] =
    take_more xs k x (slice_get_within xs k x at) ∙ ap (λ (y : X). take k xs ++ y ∷ []) (get_or_from_slice_get xs k x x at) in
    let parts : flat_map f (take (k + 1) xs) ≡ flat_map f (take k xs) ++ f x =
    ap (flat_map f) more ∙ sym (flat_map_more f [] (take k xs) x) in
    subst (λ (l : List A). AddsNew old l new) (sym parts) (adds_both old (flat_map f (take k xs)) mid (f x) new first second)

pub adds_whole : {A X : Type 0} (f : X → List A) (xs : List X) (k : ℕ) (old new : List A) → length xs ≤ k → AddsNew old (flat_map f (take k xs)) new
    → AddsNew old (flat_map f xs) new
adds_whole {A} {X} f xs k old new past adds = subst (λ (l : List X). AddsNew old (flat_map f l) new) (take_all k xs past) adds

-- the first items of a list, one more, and all of them
pub adds_next : {A : Type 0} (xs : List A) (k : ℕ) (x : A) (old mid new : List A) → k < length xs → x ≡ get_or xs k x → AddsNew old (take k xs) mid
    → AddsNew mid (x ∷ []) new → AddsNew old (take (k + 1) xs) new
adds_next {A} xs k x old mid new low is first second =
    let more : take (k + 1) xs ≡ take k xs ++ x ∷ [] = take_more xs k x low ∙ ap (λ (y : A). take k xs ++ y ∷ []) (sym is) in
    subst (λ (l : List A). AddsNew old l new) (sym more) (adds_both old (take k xs) mid (x ∷ []) new first second)

pub adds_to_end : {A : Type 0} (xs : List A) (k : ℕ) (old new : List A) → length xs ≤ k → AddsNew old (take k xs) new → AddsNew old xs new
adds_to_end {A} xs k old new past adds = subst (λ (l : List A). AddsNew old l new) (take_all k xs past) adds

-- what was listed stays
pub adds_keeps : {A : Type 0} (old xs new : List A) (y : A) → AddsNew old xs new → Contains old y → Contains new y
adds_keeps _ _ _ y (No_more listed) has = has
adds_keeps _ _ _ y (Stands listed x xs new is rest) has = adds_keeps listed xs new y rest has
adds_keeps _ _ _ y (Is_new listed x xs new fresh rest) has =
    adds_keeps (listed ++ x ∷ []) xs new y rest (Contains-append_left listed (x ∷ []) y has)

-- each item that is added is listed
pub adds_has : {A : Type 0} (old xs new : List A) (y : A) → AddsNew old xs new → Contains xs y → Contains new y
adds_has _ _ _ y (No_more listed) has = absurd (omega (arith, has.1))
adds_has {A} _ _ _ y (Stands listed x xs new is rest) has = elim (Contains-append_cases (x ∷ []) xs y has) [
  | inl first ↦ adds_keeps listed xs new y rest (subst (λ (z : A). Contains listed z) (only_item x y first) is)
  | inr later ↦ adds_has listed xs new y rest later
]
adds_has {A} _ _ _ y (Is_new listed x xs new fresh rest) has = elim (Contains-append_cases (x ∷ []) xs y has) [
  | inl first ↦
      adds_keeps (listed ++ x ∷ []) xs new y rest
      (subst (λ (z : A). Contains (listed ++ x ∷ []) z) (only_item x y first) (Contains-push listed x))
  | inr later ↦ adds_has (listed ++ x ∷ []) xs new y rest later
]

-- what is added follows
pub adds_after : {A : Type 0} (old xs new : List A) → AddsNew old xs new → (more : List A) × (new ≡ old ++ more)
adds_after _ _ _ (No_more listed) = ([], sym (append-nil listed))
adds_after _ _ _ (Stands listed x xs new is rest) = adds_after listed xs new rest
adds_after _ _ _ (Is_new listed x xs new fresh rest) =
    let after = adds_after (listed ++ x ∷ []) xs new rest in (x ∷ after.0, after.1 ∙ append_assoc listed (x ∷ []) after.0)

-- nothing more adds nothing
pub adds_nothing : {A : Type 0} (old new : List A) → AddsNew old [] new → new ≡ old
adds_nothing _ _ (No_more listed) = refl

-- an item further on stands at its place among those that are left
pub at_dropped : {A : Type 0} (n : ℕ) (xs : List A) (i : ℕ) (x : A) → n ≤ i → slice_get xs i ≡ Some x → slice_get (drop n xs) (i - n) ≡ Some x
at_dropped zero xs i x le at = let e : i ≡ i - 0 = omega arith in subst (λ k. slice_get xs k ≡ Some x) e at
at_dropped (suc n) [] i x le at = absurd cc
at_dropped (suc n) (y ∷ xs) zero x le at = absurd (omega arith)
at_dropped (suc n) (y ∷ xs) (suc i) x le at =
    let e : i - n ≡ suc i - suc n = omega arith in
    subst (λ k. slice_get (drop n xs) k ≡ Some x) e (at_dropped n xs i x (omega arith) at)

-- the pairs from a place on: those of its register and each later one, and the later pairs
pub pairs_from : (group : List ℕ) (k : ℕ) → k < length group
    → all_pairs (drop k group) ≡ flat_map (pair_clauses (slice_index group k)) (drop (k + 1) group) ++ all_pairs (drop (k + 1) group)
pairs_from group k low = ap all_pairs (drop_more group k 0 low)

pub no_pairs : (group : List ℕ) (k : ℕ) → length group ≤ k → all_pairs (drop k group) ≡ []
no_pairs group k past = ap all_pairs (drop_all k group past)

-- two or four clauses, one by one
pub adds_two : {A : Type 0} (a b c : List A) (x y x' y' : A) → AddsNew a (x ∷ []) b → AddsNew b (y ∷ []) c → x ≡ x' → y ≡ y' → AddsNew a (x' ∷ y' ∷ []) c
adds_two {A} a b c x y x' y' first second p q =
    subst (λ (z : A). AddsNew a (z ∷ y' ∷ []) c) p (subst (λ (z : A). AddsNew a (x ∷ z ∷ []) c) q (adds_both a (x ∷ []) b (y ∷ []) c first second))

pub adds_four : {A : Type 0} (a b c d e : List A) (x y z w x' y' z' w' : A) → AddsNew a (x ∷ []) b → AddsNew b (y ∷ []) c → AddsNew c (z ∷ []) d
    → AddsNew d (w ∷ []) e → x ≡ x' → y ≡ y' → z ≡ z' → w ≡ w' → AddsNew a (x' ∷ y' ∷ z' ∷ w' ∷ []) e
adds_four a b c d e x y z w x' y' z' w' first second third fourth p q r s =
    adds_both a (x' ∷ y' ∷ []) c (z' ∷ w' ∷ []) e (adds_two a b c x y x' y' first second p q) (adds_two c d e z w z' w' third fourth r s)
