-- What is made of a list item by item.
use Rattle.std.proofs.Common.{arith, ◌≡◌, ◌≢◌, ◌∙◌, ℕ, zero, suc, ◌+◌, ◌<◌, ◌≤◌, List, [], ◌∷◌, ◌++◌, length, take, get_or, map, flat_map, Bool, refl}
use Rattle.std.proofs.Common.{sym, ap, subst, append-nil, append_assoc}
use Rattle.std.specs.Prelude.{Some, slice_get}
use Rattle.std.proofs.lemmas.List.{take_more, take_all, length-take, map-append}
use Rattle.std.proofs.lemmas.Option.{slice_get_within, get_or_from_slice_get}
use Rattle.std.proofs.lemmas.Grind.{flat_map-append}
use Rattle.sdcv_base.specs.Seqs.{each_at, where_true}

-- of one list after another
pub each_at-append : {A B : Type 0} (f : ℕ → A → List B) (i : ℕ) (xs ys : List A) → each_at f i (xs ++ ys) ≡ each_at f i xs ++ each_at f (i + length xs) ys
each_at-append f i [] ys = ap (λ (n : ℕ). each_at f n ys) (omega arith)
each_at-append f i (x ∷ xs) ys =
    let long : (i + 1) + length xs ≡ i + length (x ∷ xs) = omega arith in
    ap (λ l. f i x ++ l) (each_at-append f (i + 1) xs ys ∙ ap (λ (n : ℕ). each_at f (i + 1) xs ++ each_at f n ys) long)
    ∙ sym (append_assoc (f i x) (each_at f (i + 1) xs) (each_at f (i + length (x ∷ xs)) ys))

-- of one item more
pub each_at_more : {A B : Type 0} (f : ℕ → A → List B) (xs : List A) (k : ℕ) (x : A) → slice_get xs k ≡ Some x → each_at f 0 (take (k + 1) xs) ≡
    each_at f 0 (take k xs) ++ f k x
each_at_more f xs k x here =
    let low : k < length xs = slice_get_within xs k x here in
    let long : length (take k xs) ≡ k = grind (arith, length-take) in
    let at : 0 + length (take k xs) ≡ k = omega (arith, long) in
    ap (each_at f 0) (take_more xs k x low) ∙ each_at-append f 0 (take k xs) (get_or xs k x ∷ [])
    ∙ ap (λ (n : ℕ). each_at f 0 (take k xs) ++ (f n (get_or xs k x) ++ [])) at
    ∙ ap (λ l. each_at f 0 (take k xs) ++ l) (append-nil (f k (get_or xs k x)) ∙ ap (f k) (get_or_from_slice_get xs k x x here))

-- a list that has what is made of the first items, and then what is made of the next one
pub added : {A B : Type 0} (f : ℕ → A → List B) (xs : List A) (old now new : List B) (k : ℕ) (x : A) → slice_get xs k ≡ Some x
    → now ≡ old ++ each_at f 0 (take k xs) → new ≡ now ++ f k x → new ≡ old ++ each_at f 0 (take (k + 1) xs)
added f xs old now new k x here before turn =
    turn ∙ ap (λ l. l ++ f k x) before ∙ append_assoc old (each_at f 0 (take k xs)) (f k x)
    ∙ ap (λ l. old ++ l) (sym (each_at_more f xs k x here))

-- and of all items
pub added_all : {A B : Type 0} (f : ℕ → A → List B) (xs : List A) (old new : List B) (k : ℕ) → length xs ≤ k → new ≡ old ++ each_at f 0 (take k xs)
    → new ≡ old ++ each_at f 0 xs
added_all f xs old new k past done = done ∙ ap (λ l. old ++ each_at f 0 l) (take_all k xs past)

-- where nothing is made of any item
pub each_at_none : {A B : Type 0} (f : ℕ → A → List B) (i : ℕ) (xs : List A) → ((k : ℕ) (x : A) → slice_get xs k ≡ Some x → f (i + k) x ≡ [])
    → each_at f i xs ≡ []
each_at_none f i [] none = refl
each_at_none {A} {B} f i (x ∷ xs) none =
    let first : f i x ≡ [] = subst (λ (n : ℕ). f n x ≡ []) (omega arith) (none 0 x refl) in
    let rest : each_at f (i + 1) xs ≡ [] = each_at_none f (i + 1) xs (λ k y here. let at : i + suc k ≡ (i + 1) + k = omega arith in
    subst (λ (n : ℕ). f n y ≡ []) at (none (suc k) y here)) in
    rw (first, rest) refl

-- where something is made of one item alone
pub each_at_alone : {A B : Type 0} (f : ℕ → A → List B) (i : ℕ) (xs : List A) (k : ℕ) (x : A) → slice_get xs k ≡ Some x
    → ((j : ℕ) (y : A) → slice_get xs j ≡ Some y → j ≢ k → f (i + j) y ≡ []) → each_at f i xs ≡ f (i + k) x
each_at_alone f i [] k x here none = absurd cc
each_at_alone {A} {B} f i (y ∷ ys) zero x here none =
    let same : y ≡ x = grind arith in
    let rest : each_at f (i + 1) ys ≡ [] = each_at_none f (i + 1) ys (λ j z there. let at : i + suc j ≡ (i + 1) + j = omega arith in
    subst (λ (n : ℕ). f n z ≡ []) at (none (suc j) z there (omega arith))) in
    let zero_more : i ≡ i + 0 = omega arith in
    ap (λ l. f i y ++ l) rest ∙ append-nil (f i y) ∙ ap (f i) same ∙ ap (λ (n : ℕ). f n x) zero_more
each_at_alone {A} {B} f i (y ∷ ys) (suc k) x here none =
    let first : f i y ≡ [] = subst (λ (n : ℕ). f n y ≡ []) (omega arith) (none 0 y refl (omega arith)) in
    let at_k : (i + 1) + k ≡ i + suc k = omega arith in
    let rest : each_at f (i + 1) ys ≡ f ((i + 1) + k) x =
    each_at_alone f (i + 1) ys k x here (λ j z there other. let at : i + suc j ≡ (i + 1) + j = omega arith in
    subst (λ (n : ℕ). f n z ≡ []) at (none (suc j) z there (omega (arith, other)))) in
    ap (λ l. l ++ each_at f (i + 1) ys) first ∙ rest ∙ ap (λ (n : ℕ). f n x) at_k

-- the same from place 0 on
pub nothing_made : {A B : Type 0} (f : ℕ → A → List B) (xs : List A) → ((k : ℕ) (x : A) → slice_get xs k ≡ Some x → f k x ≡ []) → each_at f 0 xs ≡ []
nothing_made f xs none = each_at_none f 0 xs (λ k x here. let at : k ≡ 0 + k = omega arith in subst (λ (n : ℕ). f n x ≡ []) at (none k x here))

pub one_made : {A B : Type 0} (f : ℕ → A → List B) (xs : List A) (k : ℕ) (x : A) → slice_get xs k ≡ Some x
    → ((j : ℕ) (y : A) → slice_get xs j ≡ Some y → j ≢ k → f j y ≡ []) → each_at f 0 xs ≡ f k x
one_made f xs k x here none =
    let at_k : 0 + k ≡ k = omega arith in
    each_at_alone f 0 xs k x here (λ j y there other. let at : j ≡ 0 + j = omega arith in subst (λ (n : ℕ). f n y ≡ []) at (none j y there other))
    ∙ ap (λ (n : ℕ). f n x) at_k

-- an item that stands at a place
pub item_at : {A : Type 0} (xs : List A) (k : ℕ) → k < length xs → (x : A) × (slice_get xs k ≡ Some x)
item_at [] k low = absurd (omega (arith, low))
item_at (x ∷ xs) zero low = (x, refl)
item_at (x ∷ xs) (suc k) low = item_at xs k (omega (arith, low))

-- of one item more, whatever it is
pub added_any : {A B : Type 0} (f : ℕ → A → List B) (xs : List A) (old now new ys : List B) (k : ℕ) → k < length xs → ((x : A) → f k x ≡ ys)
    → now ≡ old ++ each_at f 0 (take k xs) → new ≡ now ++ ys → new ≡ old ++ each_at f 0 (take (k + 1) xs)
added_any f xs old now new ys k low all before turn =
    let (x, here) = item_at xs k low in
    added f xs old now new k x here before (turn ∙ ap (λ l. now ++ l) (sym (all x)))

-- what is added where it is wanted
pub turned : {B : Type 0} (now new : List B) (b c : Bool) (x y : B) → new ≡ now ++ where_true b x → b ≡ c → x ≡ y → new ≡ now ++ where_true c y
turned now new b c x y added same is = added ∙ ap (λ (t : Bool). now ++ where_true t x) same ∙ ap (λ z. now ++ where_true c z) is

-- the first items and one more
pub take_next : {A : Type 0} (xs : List A) (k : ℕ) (x : A) → slice_get xs k ≡ Some x → take (k + 1) xs ≡ take k xs ++ x ∷ []
take_next xs k x here = take_more xs k x (slice_get_within xs k x here) ∙ ap (λ y. take k xs ++ y ∷ []) (get_or_from_slice_get xs k x x here)

pub map_next : {A B : Type 0} (f : A → B) (xs : List A) (k : ℕ) (x : A) → slice_get xs k ≡ Some x → map f (take (k + 1) xs) ≡ map f (take k xs) ++ f x ∷ []
map_next f xs k x here = ap (map f) (take_next xs k x here) ∙ map-append f (take k xs) (x ∷ [])

pub flat_next : {A B : Type 0} (f : A → List B) (xs : List A) (k : ℕ) (x : A) → slice_get xs k ≡ Some x → flat_map f (take (k + 1) xs) ≡
    flat_map f (take k xs) ++ f x
flat_next f xs k x here =
    ap (flat_map f) (take_next xs k x here) ∙ flat_map-append f (take k xs) (x ∷ []) ∙ ap (λ l. flat_map f (take k xs) ++ l) (append-nil (f x))

pub pushed : {B : Type 0} (old now new more all : List B) (xs : List B) → now ≡ old ++ xs → new ≡ now ++ more → all ≡ xs ++ more → new ≡ old ++ all
pushed old now new more all xs before turn whole =
    turn ∙ ap (λ l. l ++ more) before ∙ append_assoc old xs more ∙ ap (λ l. old ++ l) (sym whole)

-- nothing is added
pub added_nothing : {B : Type 0} (found more : List B) → more ≡ [] → found ≡ found ++ more
added_nothing found more none = sym (append-nil found) ∙ ap (λ l. found ++ l) (sym none)
