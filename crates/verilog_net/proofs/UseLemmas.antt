-- Numbers in order, and the place of a net among them.
use Rattle.std.proofs.Common.{arith, ◌≡◌, ℕ, zero, suc, ◌+◌, ◌≤◌, ◌<◌, Bool, true, false, ◌||◌, List, [], ◌∷◌, length, get_or, nat_eq, All}
use Rattle.std.proofs.Common.{refl, sym, ap, ◌∙◌, subst, inl, inr}
use Rattle.std.specs.Prelude.{filter, Contains}
use Rattle.std.specs.List.{range_with_len}
use Rattle.std.specs.List.Sorted.{IsStrictlyIncreasing}
use Rattle.std.proofs.lemmas.Bool.{cases_lt, eq-eqb, ne_eqb, eqb-true}
use Rattle.std.proofs.lemmas.List.Elements.{All-nil, All-head, All-tail, All-weaker, All-contains, All-contains_itself}
use Rattle.std.proofs.lemmas.List.Folds.{list_any_at}
use Rattle.std.proofs.lemmas.List.Kept.{AllPairs-from_increasing}
use Rattle.std.proofs.lemmas.List.Sums.{position_or_len_is}
use Rattle.std.proofs.lemmas.Map.Views.{Contains-from_any}
use Rattle.verilog_net.specs.Orders.{IsInOrder}
use Rattle.verilog_net.specs.Uses.{is_in, those_in, number_in}

-- numbers that rise from one on
abbrev Rises : ℕ → List ℕ → Type 0
Rises a [] = Unit {0}
Rises a (x ∷ xs) = (a ≤ x) × Rises (x + 1) xs

rises_lower : (a b : ℕ) (xs : List ℕ) → a ≤ b → Rises b xs → Rises a xs
rises_lower a b [] upto rises = tt
rises_lower a b (x ∷ xs) upto rises = let first = rises.0 in (omega arith, rises.1)

rises_from : (a : ℕ) (xs : List ℕ) → (0 < length xs → a ≤ get_or xs 0 0) → ((k : ℕ) → suc k < length xs → get_or xs k 0 < get_or xs (suc k) 0) → Rises a xs
rises_from a [] first up = tt
rises_from a (x ∷ xs) first up = (
  first (omega arith),
  rises_from (x + 1) xs (λ some. let next = up 0 (omega arith) in omega arith) (λ k low. up (suc k) (omega arith)),
)

next_up : (xs : List ℕ) → IsStrictlyIncreasing xs → (k : ℕ) → suc k < length xs → get_or xs k 0 < get_or xs (suc k) 0
next_up xs ascending k low =
    let on : k + 1 ≡ suc k = omega arith in
    subst (λ (i : ℕ). get_or xs k 0 < get_or xs i 0) on (ascending k (omega arith))

-- a number below all of them is none of them
not_in : (a : ℕ) (xs : List ℕ) → Rises (a + 1) xs → is_in xs a ≡ false
not_in a [] rises = refl
not_in a (x ∷ xs) rises =
    let first = rises.0 in
    let here : nat_eq a x ≡ false = ne_eqb a x (λ same. omega arith) in
    let rest = not_in a xs (rises_lower (a + 1) (x + 1) xs (omega arith) rises.1) in
    rw (here, rest) refl

either : (a x : ℕ) (b : Bool) → a ≡ x → (nat_eq a x || b) ≡ true
either a x b same = rw (eq-eqb a x same) refl

other : (a x : ℕ) (b : Bool) → x < a → (nat_eq a x || b) ≡ b
other a x b less = let off : nat_eq a x ≡ false = ne_eqb a x (λ same. omega arith) in rw off refl

-- numbers that rise are those of a range that are among them
those_from : (p : ℕ → Bool) (n a : ℕ) (xs : List ℕ) → Rises a xs → All (λ x. x < a + n) xs → ((y : ℕ) → a ≤ y → p y ≡ is_in xs y)
    → xs ≡ filter p (range_with_len a n)
those_from p zero a [] rises below same = refl
those_from p zero a (x ∷ xs) rises below same =
    let first = rises.0 in
    let low = All-head (λ (x : ℕ). x < a + 0) x xs below in
    absurd (omega arith)
those_from p (suc n) a [] rises below same =
    let here : p a ≡ false = same a (omega arith) in
    rw here (those_from p n (a + 1) [] tt (All-nil (λ (x : ℕ). x < (a + 1) + n)) (λ y low. same y (omega arith)))
those_from p (suc n) a (x ∷ xs) rises below same =
    let lower = All-weaker (λ (x : ℕ). x < a + suc n) (λ (x : ℕ). x < (a + 1) + n) (λ x low. omega arith) (x ∷ xs) below in
    elim (cases_lt a x) [
      | inl less ↦
          let up : Rises (a + 1) (x ∷ xs) = (omega arith, rises.1) in
          let here : p a ≡ false = same a (omega arith) ∙ not_in a (x ∷ xs) up in
          rw here (those_from p n (a + 1) (x ∷ xs) up lower (λ y low. same y (omega arith)))
      | inr upto ↦
          let first = rises.0 in
          let is : a ≡ x = omega arith in
          let here : p a ≡ true = same a (omega arith) ∙ either a x (is_in xs a) is in
          let rest = those_from p n (a + 1) xs (rises_lower (a + 1) (x + 1) xs (omega arith) rises.1)
          (All-tail (λ (x : ℕ). x < (a + 1) + n) x xs lower) (λ y low. same y (omega arith) ∙ other y x (is_in xs y) (omega arith)) in
          rw here (ap (λ (y : ℕ). y ∷ xs) (sym is) ∙ ap (λ (l : List ℕ). a ∷ l) rest)
    ]

contained : (xs : List ℕ) (x : ℕ) → Contains xs x → is_in xs x ≡ true
contained xs x has =
    let (k, low, is) = has in
    list_any_at (nat_eq x) xs k x low (eq-eqb x (get_or xs k x) (sym is))

-- what is contained is found, and what is found is contained
found_in : (xs : List ℕ) (x : ℕ) → is_in xs x ≡ true → Contains xs x
found_in xs x is = Contains-from_any {eq = nat_eq} eqb-true x xs is

same_truth : (b c : Bool) → (b ≡ true → c ≡ true) → (c ≡ true → b ≡ true) → b ≡ c
same_truth true c to from = sym (to refl)
same_truth false true to from = from refl
same_truth false false to from = refl

-- numbers in order, all of which are below a count
pub those_are : (old new : List ℕ) (count : ℕ) → IsInOrder old new → All (λ n. n < count) old → new ≡ those_in old count
those_are old new count is below =
    let low = All-weaker (Contains new) (λ (n : ℕ). n < 0 + count)
    (λ n has. let under = All-contains (λ (n : ℕ). n < count) old n below (is.only n has) in omega arith) new (All-contains_itself new) in
    those_from (is_in old) count 0 new (rises_from 0 new (λ some. omega arith) (next_up new is.ascending)) low
    (λ y least. same_truth (is_in old y) (is_in new y) (λ has. contained new y (is.all y (found_in old y has)))
    (λ has. contained old y (is.only y (found_in new y has))))

-- ascending numbers differ
rising : (used : List ℕ) (i j : ℕ) → IsStrictlyIncreasing used → i < j → j < length used → get_or used i 0 < get_or used j 0
rising used i j ascending less below = AllPairs-from_increasing used ascending i j 0 less below

pub not_falling : (used : List ℕ) → IsStrictlyIncreasing used → (i j : ℕ) → i ≤ j → j < length used → get_or used i 0 ≤ get_or used j 0
not_falling used ascending i j upto below = elim (cases_lt i j) [
  | inl less ↦ let up = rising used i j ascending less below in omega arith
  | inr least ↦
      let same : i ≡ j = omega arith in
      let equal : get_or used i 0 ≡ get_or used j 0 = ap (λ (k : ℕ). get_or used k 0) same in
      omega arith
]

-- where a net stands among those that have a number
pub number_at : (used : List ℕ) (net i : ℕ) → IsStrictlyIncreasing used → i < length used → get_or used i 0 ≡ net → i ≡ number_in used net
number_at used net i ascending below is =
    sym (position_or_len_is (nat_eq net) used i 0 (omega arith)
    (λ k less. ne_eqb net (get_or used k 0) (λ same. let up = rising used k i ascending less below in omega arith))
    (λ low. eq-eqb net (get_or used i 0) (sym is)))

-- a net that is none of them
pub number_past : (used : List ℕ) (net i : ℕ) → ((k : ℕ) → k < i → get_or used k 0 < net) → ((k : ℕ) → i ≤ k → k < length used → net < get_or used k 0)
    → length used ≡ number_in used net
number_past used net i before after =
    sym (position_or_len_is (nat_eq net) used (length used) 0 (omega arith)
    (λ k below. ne_eqb net (get_or used k 0) (λ same. elim (cases_lt k i) [
      | inl less ↦ let low = before k less in omega arith
      | inr upto ↦ let high = after k upto below in omega arith
    ]))
    (λ low. absurd (omega arith)))
