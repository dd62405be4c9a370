-- Lists that are numbered by their places.
use Rattle.std.proofs.Common.{arith, ◌≡◌, ◌∙◌, ℕ, zero, suc, ◌+◌, ◌<◌, Bool, true, false, List, [], ◌∷◌, ◌++◌, length}
use Rattle.std.proofs.Common.{take, refl, sym, ap, subst, inl, inr, ◌⊎◌}
use Rattle.std.specs.Prelude.{◌↔◌, None, slice_get, Some, slice_index_or, slice_set, nat_lt, Contains, ◌≢◌, cond}
use Rattle.std.proofs.lemmas.Bool.Decides.{nat_tests}
use Rattle.std.proofs.lemmas.Option.{slice_get_within, same_Some, cond_some}
use Rattle.std.proofs.lemmas.List.{get_or-set_same, get_or-set_other}
use Rattle.net_model.proofs.Members.{In, In-from_Contains, Contains-from_In, In-left, In-right, In-cases}
use Rattle.list_laws.proofs.Joining.{take_next}
use Rattle.net_paths.specs.Those.{AreThose, All_seen, Taken, Left_out}
use Rattle.sdcv_base.specs.Seqs.{each_at, where_true}
use Rattle.exception_expand.specs.Points.{place_below, has_mark, AreMarks}

-- what is made of each place
pub singles_length : {A B : Type 0} (f : ℕ → B) (first : ℕ) (xs : List A) → length (each_at (λ i (x : A). f i ∷ []) first xs) ≡ length xs
singles_length f first [] = refl
singles_length f first (x ∷ xs) = ap suc (singles_length f (first + 1) xs)

pub singles_at : {A B : Type 0} (f : ℕ → B) (first : ℕ) (xs : List A) (k : ℕ) → k < length xs
    → slice_get (each_at (λ i (x : A). f i ∷ []) first xs) k ≡ Some (f (first + k))
singles_at f first [] k low = absurd (omega arith)
singles_at f first (x ∷ xs) zero low = let at : first ≡ first + 0 = omega arith in ap (λ (n : ℕ). Some (f n)) at
singles_at f first (x ∷ xs) (suc k) low =
    let at : (first + 1) + k ≡ first + suc k = omega arith in
    singles_at f (first + 1) xs k (omega arith) ∙ ap (λ (n : ℕ). Some (f n)) at

pub get_left : {A : Type 0} (xs ys : List A) (k : ℕ) → k < length xs → slice_get (xs ++ ys) k ≡ slice_get xs k
get_left [] ys k low = absurd (omega arith)
get_left (x ∷ xs) ys zero low = refl
get_left (x ∷ xs) ys (suc k) low = get_left xs ys k (omega arith)

pub get_right : {A : Type 0} (xs ys : List A) (k : ℕ) → slice_get (xs ++ ys) (length xs + k) ≡ slice_get ys k
get_right [] ys k = let at : length {A = ℕ} [] + k ≡ k = omega arith in ap (slice_get ys) at
get_right (x ∷ xs) ys k = let at : length (x ∷ xs) + k ≡ suc (length xs + k) = omega arith in ap (slice_get (x ∷ xs ++ ys)) at ∙ get_right xs ys k

marked_next : {A : Type 0} (W : A → Type 0) (b : Bool) (x : A) (xs ys : List A) → (b ≡ true ↔ W x) → AreThose W xs ys
    → AreThose W (x ∷ xs) (where_true b x ++ ys)
marked_next W true x xs ys is those = Taken x xs ys (is.0 refl) those
marked_next W false x xs ys is those = Left_out x xs ys (λ w. absurd (grind (arith, is.1 w))) those

-- those that have a mark where it holds
pub those_marked : {A : Type 0} (W : A → Type 0) (marks : List Bool) (first : ℕ) (xs : List A)
    → ((k : ℕ) (x : A) → slice_get xs k ≡ Some x → (slice_index_or marks (first + k) false ≡ true ↔ W x))
    → AreThose W xs (each_at (λ k (x : A). where_true (slice_index_or marks k false) x) first xs)
those_marked W marks first [] is = All_seen
those_marked {A} W marks first (x ∷ xs) is =
    let at : first + 0 ≡ first = omega arith in
    let now = subst (λ (n : ℕ). slice_index_or marks n false ≡ true ↔ W x) at (is 0 x refl) in
    marked_next W (slice_index_or marks first false) x xs (each_at (λ k (y : A). where_true (slice_index_or marks k false) y) (first + 1) xs) now
    (those_marked W marks (first + 1) xs (λ k y here. let on : first + suc k ≡ (first + 1) + k = omega arith in
    subst (λ (n : ℕ). slice_index_or marks n false ≡ true ↔ W y) on (is (suc k) y here)))

-- a number is below another one, or so much above it
pub below_or : (k n : ℕ) → (k < n) ⊎ ((j : ℕ) × (k ≡ n + j))
below_or k zero = inr (k, omega arith)
below_or zero (suc n) = inl (omega arith)
below_or (suc k) (suc n) = elim (below_or k n) [ inl low ↦ inl (omega arith) | inr high ↦ inr (high.0, omega (arith, high.1)) ]

pub same_or : (a b : ℕ) → (a ≡ b) ⊎ (a ≢ b)
same_or zero zero = inl refl
same_or zero (suc b) = inr (omega arith)
same_or (suc a) zero = inr (omega arith)
same_or (suc a) (suc b) = elim (same_or a b) [ inl e ↦ inl (ap suc e) | inr n ↦ inr (λ e. n (omega (arith, e))) ]

place_is : (number first count k : ℕ) → place_below number first count ≡ Some k → (number < count) × (first + number ≡ k)
place_is number first count k is =
    let both = cond_some (nat_lt number count) (first + number) k is in
    let low : number < count = grind (arith, nat_tests, both.0) in
    (low, both.1)

place_of : (number first count k : ℕ) → number < count → first + number ≡ k → place_below number first count ≡ Some k
place_of number first count k low is =
    let yes : nat_lt number count ≡ true = grind (arith, nat_tests) in
    ap (λ (b : Bool). cond b (Some (first + number)) None) yes ∙ ap (λ (n : ℕ). Some n) is

-- the numbers of one kind stand first, then those of another
pub first_here : {A C B : Type 0} (f g : ℕ → B) (xs : List A) (ys : List C) (r k : ℕ) → place_below r 0 (length xs) ≡ Some k
    → slice_get (each_at (λ i (x : A). f i ∷ []) 0 xs ++ each_at (λ i (y : C). g i ∷ []) 0 ys) k ≡ Some (f r)
first_here {A} {C} {B} f g xs ys r k is =
    let (low, same) = place_is r 0 (length xs) k is in
    let at : k < length xs = omega (arith, low, same) in
    let within : k < length (each_at (λ i (x : A). f i ∷ []) 0 xs) = omega (arith, at, singles_length f 0 xs) in
    let number : 0 + k ≡ r = omega (arith, same) in
    get_left (each_at (λ i (x : A). f i ∷ []) 0 xs) (each_at (λ i (y : C). g i ∷ []) 0 ys) k within
    ∙ singles_at f 0 xs k at ∙ ap (λ (n : ℕ). Some (f n)) number

pub second_here : {A C B : Type 0} (f g : ℕ → B) (xs : List A) (ys : List C) (r k : ℕ) → place_below r (length xs) (length ys) ≡ Some k
    → slice_get (each_at (λ i (x : A). f i ∷ []) 0 xs ++ each_at (λ i (y : C). g i ∷ []) 0 ys) k ≡ Some (g r)
second_here {A} {C} {B} f g xs ys r k is =
    let (low, same) = place_is r (length xs) (length ys) k is in
    let fs = each_at (λ i (x : A). f i ∷ []) 0 xs in
    let gs = each_at (λ i (y : C). g i ∷ []) 0 ys in
    let at : k ≡ length fs + r = omega (arith, same, singles_length f 0 xs) in
    let number : 0 + r ≡ r = omega arith in
    ap (slice_get (fs ++ gs)) at ∙ get_right fs gs r ∙ singles_at g 0 ys r low ∙ ap (λ (n : ℕ). Some (g n)) number

-- what stands at a place is of the first kind, or of the second
pub kinds_at : {A C B : Type 0} (f g : ℕ → B) (xs : List A) (ys : List C) (k : ℕ) (x : B)
    → slice_get (each_at (λ i (x : A). f i ∷ []) 0 xs ++ each_at (λ i (y : C). g i ∷ []) 0 ys) k ≡ Some x
    → ((k < length xs) × (f k ≡ x)) ⊎ ((j : ℕ) × (k ≡ length xs + j) × (j < length ys) × (g j ≡ x))
kinds_at {A} {C} {B} f g xs ys k x here =
    let fs = each_at (λ i (x : A). f i ∷ []) 0 xs in
    let gs = each_at (λ i (y : C). g i ∷ []) 0 ys in
    elim (below_or k (length xs)) [
      | inl low ↦
          let within : k < length fs = omega (arith, low, singles_length f 0 xs) in
          let number : 0 + k ≡ k = omega arith in
          inl (low, same_Some (f k) x (sym (get_left fs gs k within ∙ singles_at f 0 xs k low ∙ ap (λ (n : ℕ). Some (f n)) number) ∙ here))
      | inr high ↦
          let j = high.0 in
          let at : k ≡ length fs + j = omega (arith, high.1, singles_length f 0 xs) in
          let there : slice_get gs j ≡ Some x = sym (get_right fs gs j) ∙ sym (ap (slice_get (fs ++ gs)) at) ∙ here in
          let low : j < length ys = omega (arith, slice_get_within gs j x there, singles_length g 0 ys) in
          let number : 0 + j ≡ j = omega arith in
          inr (j, high.1, low, same_Some (g j) x (sym (singles_at g 0 ys j low ∙ ap (λ (n : ℕ). Some (g n)) number) ∙ there))
    ]

pub first_only : {A C B : Type 0} (f g : ℕ → B) (xs : List A) (ys : List C) (r k : ℕ) → ((i j : ℕ) → f i ≡ f j → i ≡ j) → ((i j : ℕ) → g i ≡ f j → ⊥)
    → slice_get (each_at (λ i (x : A). f i ∷ []) 0 xs ++ each_at (λ i (y : C). g i ∷ []) 0 ys) k ≡ Some (f r) → place_below r 0 (length xs) ≡ Some k
first_only {A} {C} {B} f g xs ys r k same other here =
    elim (kinds_at f g xs ys k (f r) here) [
      | inl first ↦
          let number : k ≡ r = same k r first.1 in
          place_of r 0 (length xs) k (omega (arith, first.0, number)) (omega (arith, number))
      | inr second ↦ absurd (other second.0 r second.3)
    ]

pub second_only : {A C B : Type 0} (f g : ℕ → B) (xs : List A) (ys : List C) (r k : ℕ) → ((i j : ℕ) → g i ≡ g j → i ≡ j) → ((i j : ℕ) → f i ≡ g j → ⊥)
    → slice_get (each_at (λ i (x : A). f i ∷ []) 0 xs ++ each_at (λ i (y : C). g i ∷ []) 0 ys) k ≡ Some (g r)
    → place_below r (length xs) (length ys) ≡ Some k
second_only {A} {C} {B} f g xs ys r k same other here =
    elim (kinds_at f g xs ys k (g r) here) [
      | inl first ↦ absurd (other k r first.1)
      | inr second ↦
          let number : second.0 ≡ r = same second.0 r second.3 in
          place_of r (length xs) (length ys) k (omega (arith, second.2, number)) (omega (arith, second.1, number))
    ]

-- a mark more
pub put_mark : {A : Type 0} (marks : List Bool) (place k : ℕ) (item x : A) → place < length marks → (k ≡ place → item ≡ x) → (item ≡ x → k ≡ place)
    → (has_mark (slice_set marks place true) k ≡ true ↔ (has_mark marks k ≡ true ⊎ (item ≡ x)))
put_mark marks place k item x low here only =
    elim (same_or k place) [
      | inl e ↦
          let now : has_mark (slice_set marks place true) k ≡ true =
          ap (has_mark (slice_set marks place true)) e ∙ get_or-set_same marks place true false low in
          (λ h. inr (here e), λ h. now)
      | inr n ↦
          let as_before : has_mark (slice_set marks place true) k ≡ has_mark marks k = get_or-set_other marks place k true false n in
          (λ h. inl (sym as_before ∙ h), λ h. elim h [ inl marked ↦ as_before ∙ marked | inr e ↦ absurd (n (only e)) ])
    ]

-- a mark more, at the place of an item
pub put_mark_at : {A : Type 0} (all : List A) (marks new : List Bool) (place k : ℕ) (item x : A) → length marks ≡ length all → slice_get all place ≡ Some item
    → slice_get all k ≡ Some x → new ≡ slice_set marks place true → (slice_get all k ≡ Some item → k ≡ place)
    → (has_mark new k ≡ true ↔ (has_mark marks k ≡ true ⊎ (item ≡ x)))
put_mark_at {A} all marks new place k item x len here there is only =
    let low : place < length marks = omega (arith, len, slice_get_within all place item here) in
    subst (λ (m : List Bool). has_mark m k ≡ true ↔ (has_mark marks k ≡ true ⊎ (item ≡ x))) (sym is)
    (put_mark marks place k item x low (λ e. same_Some item x (sym here ∙ sym (ap (slice_get all) e) ∙ there))
    (λ e. only (there ∙ ap (λ (y : A). Some y) (sym e))))

contains_next : {A : Type 0} (xs : List A) (k : ℕ) (item x : A) → slice_get xs k ≡ Some item → Contains (take (k + 1) xs) x
    → Contains (take k xs) x ⊎ (item ≡ x)
contains_next {A} xs k item x here has =
    let split : In x (take k xs ++ item ∷ []) = subst (In x) (take_next xs k item here) (In-from_Contains (take (k + 1) xs) x has) in
    elim (In-cases x (take k xs) (item ∷ []) split) [
      | inl before ↦ inl (Contains-from_In (take k xs) x before)
      | inr last ↦ elim last [ inl e ↦ inr e | inr none ↦ absurd none ]
    ]

next_contains : {A : Type 0} (xs : List A) (k : ℕ) (item x : A) → slice_get xs k ≡ Some item → Contains (take k xs) x ⊎ (item ≡ x)
    → Contains (take (k + 1) xs) x
next_contains {A} xs k item x here has =
    let joined : In x (take k xs ++ item ∷ []) = elim has [
      | inl before ↦ In-left x (take k xs) (item ∷ []) (In-from_Contains (take k xs) x before)
      | inr e ↦ In-right x (take k xs) (item ∷ []) (inl e)
    ] in
    Contains-from_In (take (k + 1) xs) x (subst (In x) (sym (take_next xs k item here)) joined)

-- marks of one item more
pub marks_next : {A : Type 0} (all xs : List A) (k : ℕ) (item : A) (old new : List Bool) → slice_get xs k ≡ Some item → AreMarks (Contains (take k xs)) all old
    → length new ≡ length all
    → ((j : ℕ) (x : A) → slice_get all j ≡ Some x → (has_mark new j ≡ true ↔ (has_mark old j ≡ true ⊎ (item ≡ x))))
    → AreMarks (Contains (take (k + 1) xs)) all new
marks_next all xs k item old new here before len marked = record {
  len = len;
  wanted = λ j x there.
      let was = before.wanted j x there in
      let is = marked j x there in (
        λ h. next_contains xs k item x here (elim (is.0 h) [ inl m ↦ inl (was.0 m) | inr e ↦ inr e ]),
        λ h. is.1 (elim (contains_next xs k item x here h) [ inl c ↦ inl (was.1 c) | inr e ↦ inr e ]),
      );
}

-- no marks
pub no_marks : {A : Type 0} (all : List A) (marks : List Bool) → length marks ≡ length all → ((k : ℕ) → has_mark marks k ≡ false)
    → AreMarks (Contains []) all marks
no_marks all marks len none = record {
  len = len;
  wanted = λ k x here. (λ h. absurd (grind (arith, none k)), λ h. absurd (omega (arith, h.1)));
}

-- those that have a mark
pub marked_those : {A : Type 0} (W : A → Type 0) (all items : List A) (marks : List Bool) → items ≡ all → AreMarks W all marks
    → AreThose W all (each_at (λ k (x : A). where_true (has_mark marks k) x) 0 items)
marked_those {A} W all items marks is are =
    subst (λ (l : List A). AreThose W all (each_at (λ k (x : A). where_true (has_mark marks k) x) 0 l)) (sym is)
    (those_marked W marks 0 all (λ k x here. let at : k ≡ 0 + k = omega arith in
    subst (λ (n : ℕ). has_mark marks n ≡ true ↔ W x) at (are.wanted k x here)))
