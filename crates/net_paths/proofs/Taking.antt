-- Those of a list that stand at ascending places.
use Rattle.std.proofs.Common.{arith, ◌≡◌, ℕ, zero, suc, ◌+◌, ◌-◌, ◌<◌, ◌≤◌, List, [], ◌∷◌, ◌++◌, length, take, get_or, sym, ap, ◌∙◌, subst, inl, inr}
use Rattle.std.specs.Prelude.{Some, slice_get, Contains}
use Rattle.std.specs.List.Sorted.{IsStrictlyIncreasing}
use Rattle.std.proofs.lemmas.Bool.{cases_lt}
use Rattle.std.proofs.lemmas.Option.{slice_get-get_or, slice_get_within, slice_get_cases, get_or_from_slice_get}
use Rattle.net_model.specs.declared.claims.End.{End}
use Rattle.net_paths.specs.Those.{AreThose, All_seen}
use Rattle.net_paths.specs.Arrivals.{StandsAt, StandOnce}
use Rattle.net_paths.proofs.Growing.{some_is}
use Rattle.net_paths.proofs.Sifting.{those_taken, those_left_out, those_all}

has_at : (places : List ℕ) (i place : ℕ) → slice_get places i ≡ Some place → Contains places place
has_at places i place here = (i, slice_get_within places i place here, get_or_from_slice_get places i place place here)

-- some items of which it doesn't hold
those_skip : {A : Type 0} (P : A → Type 0) (xs found : List A) (n count : ℕ) → n + count ≤ length xs
    → ((k : ℕ) (x : A) → n ≤ k → k < n + count → slice_get xs k ≡ Some x → ¬ P x) → AreThose P (take n xs) found
    → AreThose P (take (n + count) xs) found
those_skip {A} P xs found n zero within never those = let e : n ≡ n + 0 = omega arith in subst (λ m. AreThose P (take m xs) found) e those
those_skip {A} P xs found n (suc count) within never those =
    let less : n + count < length xs = omega (arith, within) in
    let before = those_skip P xs found n count (omega (arith, less)) (λ k x past low. never k x past (omega (arith, low))) those in
    let more : n + count + 1 ≡ n + suc count = omega arith in
    elim ((slice_get_cases xs (n + count)).1) [
      | inl here ↦
          let (x, low, at, is) = here in
          subst (λ m. AreThose P (take m xs) found) more
          (those_left_out P xs found (n + count) x less (subst (λ y. ¬ P y) (sym is) (never (n + count) x (omega arith) (omega arith) at)) before)
      | inr past ↦ absurd (omega (arith, less, past.0))
    ]

-- the ends from a place to a later one, none of which is wanted
skip_to : {A : Type 0} (P : A → Type 0) (xs found : List A) (n m : ℕ) → n ≤ m → m ≤ length xs
    → ((k : ℕ) (x : A) → n ≤ k → k < m → slice_get xs k ≡ Some x → ¬ P x) → AreThose P (take n xs) found → AreThose P (take m xs) found
skip_to {A} P xs found n m le within never those =
    let same : n + (m - n) ≡ m = omega (arith, le) in
    subst (λ k. AreThose P (take k xs) found) same
    (those_skip P xs found n (m - n) (omega (arith, same, within)) (λ k x past low. never k x past (omega (arith, low, same))) those)

-- a number stands before the greater ones
rises : (places : List ℕ) (i count : ℕ) → IsStrictlyIncreasing places → i + count + 1 < length places → get_or places i 0 < get_or places (i + count + 1) 0
rises places i zero ascending low =
    let same : i + 0 + 1 ≡ i + 1 = omega arith in
    subst (λ k. get_or places i 0 < get_or places k 0) (sym same) (ascending i (omega (arith, low)))
rises places i (suc count) ascending low =
    let before = rises places i count ascending (omega (arith, low)) in
    let step = ascending (i + count + 1) (omega (arith, low)) in
    let same : i + suc count + 1 ≡ i + count + 1 + 1 = omega arith in
    subst (λ k. get_or places i 0 < get_or places k 0) (sym same) (omega (arith, before, step))

later_is_more : (places : List ℕ) (i j n m : ℕ) → IsStrictlyIncreasing places → i < j → slice_get places i ≡ Some n → slice_get places j ≡ Some m → n < m
later_is_more places i j n m ascending less first second =
    let low = slice_get_within places j m second in
    let before : get_or places i 0 ≡ n = get_or_from_slice_get places i n 0 first in
    let after : get_or places j 0 ≡ m = get_or_from_slice_get places j m 0 second in
    let same : i + (j - i - 1) + 1 ≡ j = omega (arith, less) in
    let more = subst (λ k. get_or places i 0 < get_or places k 0) same (rises places i (j - i - 1) ascending (omega (arith, same, low))) in
    omega (arith, before, after, more)

-- the ends at the first of the places are taken, and the other places are those of later ends
pub record AreTakenUpTo (ends : List End) (places : List ℕ) (i : ℕ) (found : List End) : Type 0 where
  pub next : ℕ
  pub within : next ≤ length ends
  pub those : AreThose (StandsAt ends places) (take next ends) found
  pub later : (n : ℕ) → next ≤ n → Contains places n → (j : ℕ) × (i ≤ j) × (slice_get places j ≡ Some n)
  pub rest : (j n : ℕ) → i ≤ j → slice_get places j ≡ Some n → next ≤ n

pub taken_none : (ends : List End) (places : List ℕ) → AreTakenUpTo ends places 0 []
taken_none ends places = record {
  next = 0;
  within = omega arith;
  those = All_seen;
  later = λ n past has. let (j, low, is) = has in (j, omega arith, slice_get-get_or places j n low ∙ ap Some is);
  rest = λ j n past at. omega arith;
}

-- one more end, which stands at the next of the places
pub taken_next : (ends found : List End) (places : List ℕ) (i place : ℕ) (end_ : End) → StandOnce ends → IsStrictlyIncreasing places
    → slice_get places i ≡ Some place → slice_get ends place ≡ Some end_ → AreTakenUpTo ends places i found
    → AreTakenUpTo ends places (i + 1) (found ++ end_ ∷ [])
taken_next ends found places i place end_ once ascending here at are =
    let P : End → Type 0 = StandsAt ends places in
    let within = slice_get_within ends place end_ at in
    let never : (k : ℕ) (x : End) → are.next ≤ k → k < place → slice_get ends k ≡ Some x → ¬ P x = λ k x past low at' stands.
    let same : stands.0 ≡ k = once stands.0 k x stands.2 at' in
    let (j, after, is) = are.later k past (subst (Contains places) same stands.1) in
    elim (cases_lt i j) [
      | inl beyond ↦ let more = later_is_more places i j place k ascending beyond here is in omega (arith, low, more)
      | inr short ↦
          let last : j ≡ i = omega (arith, after, short) in
          let this : k ≡ place = some_is k place (sym is ∙ ap (slice_get places) last ∙ here) in
          omega (arith, low, this)
    ] in
    let before = skip_to P ends found are.next place (are.rest i place (omega arith) here) (omega (arith, within)) never are.those in
    let is : get_or ends place end_ ≡ end_ = get_or_from_slice_get ends place end_ end_ at in
    let holds : P (get_or ends place end_) = subst P (sym is) (place, has_at places i place here, at) in
    record {
      next = place + 1;
      within = omega (arith, within);
      those = subst (λ e. AreThose P (take (place + 1) ends) (found ++ e ∷ [])) is (those_taken P ends found place end_ within holds before);
      later = λ n past has.
          let (j, after, is') = are.later n (let first = are.rest i place (omega arith) here in omega (arith, first, past)) has in
          elim (cases_lt i j) [
            | inl beyond ↦ (j, omega (arith, beyond), is')
            | inr short ↦
                let last : j ≡ i = omega (arith, after, short) in
                let this : n ≡ place = some_is n place (sym is' ∙ ap (slice_get places) last ∙ here) in
                absurd (omega (arith, this, past))
          ];
      rest = λ j n past at'. let more = later_is_more places i j place n ascending (omega (arith, past)) here at' in omega (arith, more);
    }

-- no place is left
pub taken_all : (ends found : List End) (places : List ℕ) (i : ℕ) → StandOnce ends → length places ≤ i → AreTakenUpTo ends places i found
    → AreThose (StandsAt ends places) ends found
taken_all ends found places i once past are =
    let P : End → Type 0 = StandsAt ends places in
    let never : (k : ℕ) (x : End) → are.next ≤ k → k < length ends → slice_get ends k ≡ Some x → ¬ P x = λ k x from low at stands.
    let same : stands.0 ≡ k = once stands.0 k x stands.2 at in
    let (j, after, is) = are.later k from (subst (Contains places) same stands.1) in
    let short = slice_get_within places j k is in
    omega (arith, past, after, short) in
    those_all P ends found (length ends) (omega arith) (skip_to P ends found are.next (length ends) are.within (omega arith) never are.those)
