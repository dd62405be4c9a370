-- What is gathered of a list's items, one item on.
use Rattle.std.proofs.Common.{◌≡◌, ℕ, ◌+◌, ◌<◌, List, [], ◌∷◌, ◌++◌, length, take, get_or, map, arith, length-take, ap, ◌∙◌, sym, append_assoc, append-nil}
use Rattle.std.specs.Prelude.{flat_map, slice_get, Some}
use Rattle.std.proofs.lemmas.List.{take_more, map-append}
use Rattle.std.proofs.lemmas.Grind.{flat_map-append}
use Rattle.std.proofs.lemmas.Option.{slice_get_within, get_or_from_slice_get}
use Rattle.wave_signals.specs.Numbered.{numbered}

-- what one item gives follows what those before it give
pub item_added : {X A : Type 0} (f : X → List A) (xs : List X) (k : ℕ) (x : X) (old now new : List A) → k < length xs → x ≡ get_or xs k x
    → now ≡ old ++ flat_map f (take k xs) → new ≡ now ++ f x → new ≡ old ++ flat_map f (take (k + 1) xs)
item_added {X} {A} f xs k x old now new low here before turn =
    let done : List A = flat_map f (take k xs) in
    let whole : flat_map f (take (k + 1) xs) ≡ done ++ f x =
    ap (flat_map f) (take_more xs k x low ∙ ap (λ (y : X). take k xs ++ y ∷ []) (sym here))
    ∙ (flat_map-append f (take k xs) (x ∷ []) ∙ ap (λ (l : List A). done ++ l) (append-nil (f x))) in
    turn ∙ (ap (λ (l : List A). l ++ f x) before ∙ (append_assoc old done (f x) ∙ ap (λ (l : List A). old ++ l) (sym whole)))

-- what is made of one item follows what is made of those before it
pub mapped_added : {X A : Type 0} (f : X → A) (xs : List X) (k : ℕ) (x : X) (old now new : List A) → k < length xs → x ≡ get_or xs k x
    → now ≡ old ++ map f (take k xs) → new ≡ now ++ f x ∷ [] → new ≡ old ++ map f (take (k + 1) xs)
mapped_added {X} {A} f xs k x old now new low here before turn =
    let done : List A = map f (take k xs) in
    let whole : map f (take (k + 1) xs) ≡ done ++ f x ∷ [] =
    ap (map f) (take_more xs k x low ∙ ap (λ (y : X). take k xs ++ y ∷ []) (sym here)) ∙ map-append f (take k xs) (x ∷ []) in
    turn ∙ (ap (λ (l : List A). l ++ f x ∷ []) before ∙ (append_assoc old done (f x ∷ []) ∙ ap (λ (l : List A). old ++ l) (sym whole)))

-- one more item
numbered_more : {X A : Type 0} (f : ℕ → X → List A) (n : ℕ) (xs : List X) (x : X) → numbered f n (xs ++ x ∷ []) ≡ numbered f n xs ++ f (n + length xs) x
unfolding numbered
numbered_more f n [] x = append-nil (f n x) ∙ ap (λ (m : ℕ). f m x) (omega arith)
numbered_more {X} {A} f n (y ∷ xs) x =
    let e : n + 1 + length xs ≡ n + length (y ∷ xs) = omega arith in
    ap (λ (l : List A). f n y ++ l) (numbered_more f (n + 1) xs x ∙ ap (λ (m : ℕ). numbered f (n + 1) xs ++ f m x) e)
    ∙ sym (append_assoc (f n y) (numbered f (n + 1) xs) (f (n + length (y ∷ xs)) x))

-- what one item gives, given its number, follows what those before it give
pub numbered_added : {X A : Type 0} (f : ℕ → X → List A) (n k m : ℕ) (xs : List X) (x : X) (old now new : List A) → slice_get xs k ≡ Some x
    → m ≡ n + k → now ≡ old ++ numbered f n (take k xs) → new ≡ now ++ f m x → new ≡ old ++ numbered f n (take (k + 1) xs)
numbered_added {X} {A} f n k m xs x old now new at number before turn =
    let low = slice_get_within xs k x at in
    let taken : take (k + 1) xs ≡ take k xs ++ x ∷ [] = take_more xs k x low ∙ ap (λ (y : X). take k xs ++ y ∷ []) (get_or_from_slice_get xs k x x at) in
    let done : List A = numbered f n (take k xs) in
    let count : n + length (take k xs) ≡ m = omega (arith, length-take k xs) in
    let whole : numbered f n (take (k + 1) xs) ≡ done ++ f m x =
    ap (numbered f n) taken ∙ (numbered_more f n (take k xs) x ∙ ap (λ (i : ℕ). done ++ f i x) count) in
    turn ∙ (ap (λ (l : List A). l ++ f m x) before ∙ (append_assoc old done (f m x) ∙ ap (λ (l : List A). old ++ l) (sym whole)))
