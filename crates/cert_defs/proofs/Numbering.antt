-- Items at their places, and lists of numbers that ascend.
use Rattle.std.proofs.Common.{◌≡◌, ℕ, zero, suc, ◌+◌, ◌<◌, ◌≤◌, Some, List, [], ◌∷◌, length, refl, sym, ap, subst, ◌∙◌, inl, inr, arith}
use Rattle.std.specs.Prelude.{◌⊎◌, All, Contains, slice_get}
use Rattle.std.specs.Option.{option_map}
use Rattle.std.proofs.lemmas.Bool.{cases_lt}
use Rattle.std.proofs.lemmas.List.{length-map}
use Rattle.std.proofs.lemmas.Option.{slice_get_within, get_or_from_slice_get, slice_get-get_or, slice_get-map}
use Rattle.net_model.proofs.Existence.{item_at}
use Rattle.net_model.specs.declared.claims.Claim.{Claim}
use Rattle.cert_values.specs.Certs.{listed_numbers}
use Rattle.cert_values.specs.declared.certs.PairProof.{PairProof}
use Rattle.cert_defs.specs.Listed.{item_numbered, IsClaimNumber, AreDistinct}
use Rattle.cert_defs.specs.Accepted.{AscendFrom}

-- an item that stands at a place is contained
pub contains_at : {X : Type 0} (xs : List X) (k : ℕ) (x : X) → slice_get xs k ≡ Some x → Contains xs x
contains_at xs k x at = (k, slice_get_within xs k x at, get_or_from_slice_get xs k x x at)

-- what is contained stands at a place
pub at_contained : {X : Type 0} (xs : List X) (x : X) → Contains xs x → (k : ℕ) × (slice_get xs k ≡ Some x)
at_contained xs x has = (has.0, slice_get-get_or xs has.0 x has.1 ∙ ap Some has.2)

-- what holds of the item at each place holds of all
pub all_from_at : {X : Type 0} (P : X → Type 0) (xs : List X) → ((k : ℕ) (x : X) → slice_get xs k ≡ Some x → P x) → All P xs
all_from_at P xs each = λ k d lt. each k _ (slice_get-get_or xs k d lt)

some_same : {X : Type 0} (a b : X) → Some a ≡ Some b → a ≡ b
some_same a b e = cc

-- the number of a listed pair stands at the pair's place
pub number_at : (pairs : List PairProof) (place : ℕ) (pair : PairProof) → slice_get pairs place ≡ Some pair
    → slice_get (listed_numbers pairs) place ≡ Some pair.number
number_at pairs place pair at =
    slice_get-map (λ (p : PairProof). p.number) pairs place ∙ ap (option_map (λ (p : PairProof). p.number)) at

-- a listed number is that of a pair
pub pair_numbered : (pairs : List PairProof) (number : ℕ) → Contains (listed_numbers pairs) number
    → (place : ℕ) × (pair : PairProof) × (slice_get pairs place ≡ Some pair) × (pair.number ≡ number)
pair_numbered pairs number has =
    let at = at_contained (listed_numbers pairs) number has in
    let within : at.0 < length pairs =
    subst (λ (n : ℕ). at.0 < n) (length-map pairs (λ (p : PairProof). p.number)) (slice_get_within (listed_numbers pairs) at.0 number at.1) in
    let found = item_at pairs at.0 within in
    (at.0, found.0, found.1, some_same found.0.number number (sym (number_at pairs at.0 found.0 found.1) ∙ at.1))

-- a number of a claim has its claim
pub claim_numbered : (claims : List Claim) (number : ℕ) → IsClaimNumber claims number → (claim : Claim) × (item_numbered claims number ≡ Some claim)
claim_numbered claims zero known = absurd (omega (arith, known.0))
claim_numbered claims (suc place) known = item_at claims place (omega (arith, known.1))

-- no number of an ascending list is below its least
pub from_least : (least : ℕ) (numbers : List ℕ) (k number : ℕ) → AscendFrom least numbers → slice_get numbers k ≡ Some number → least ≤ number
from_least least [] k number up at = absurd cc
from_least least (n ∷ ns) zero number up at = let e : n ≡ number = cc in omega (arith, up.0, e)
from_least least (n ∷ ns) (suc k) number up at = let more = from_least (n + 1) ns k number up.1 at in omega (arith, more, up.0)

pub ascend_weaker : (least more : ℕ) (numbers : List ℕ) → least ≤ more → AscendFrom more numbers → AscendFrom least numbers
ascend_weaker least more [] less up = tt
ascend_weaker least more (n ∷ ns) less up = (omega (arith, less, up.0), up.1)

later_more : (least : ℕ) (numbers : List ℕ) (i j a b : ℕ) → AscendFrom least numbers → i < j → slice_get numbers i ≡ Some a
    → slice_get numbers j ≡ Some b → a < b
later_more least [] i j a b up lt here there = absurd cc
later_more least (n ∷ ns) i zero a b up lt here there = absurd (omega (arith, lt))
later_more least (n ∷ ns) zero (suc j) a b up lt here there =
    let e : n ≡ a = cc in let more = from_least (n + 1) ns j b up.1 there in omega (arith, more, e)
later_more least (n ∷ ns) (suc i) (suc j) a b up lt here there = later_more (n + 1) ns i j a b up.1 (omega (arith, lt)) here there

-- numbers that ascend are distinct
pub distinct_ascending : (least : ℕ) (numbers : List ℕ) → AscendFrom least numbers → AreDistinct numbers
distinct_ascending least numbers up one other number here there =
    elim (cases_lt one other) [
      | inl less ↦ absurd (let more = later_more least numbers one other number number up less here there in omega (arith, more))
      | inr high ↦ elim (cases_lt other one) [
        | inl less ↦ absurd (let more = later_more least numbers other one number number up less there here in omega (arith, more))
        | inr low ↦ omega (arith, high, low)
      ]
    ]

head_or_rest : {X : Type 0} (y : X) (xs : List X) (k : ℕ) (x : X) → slice_get (y ∷ xs) k ≡ Some x → (y ≡ x) ⊎ Contains xs x
head_or_rest y xs zero x at = inl cc
head_or_rest y xs (suc k) x at = inr (contains_at xs k x at)

-- where all numbers of a list are in another with the same first number, those after it are
rest_within : (n : ℕ) (ns ms : List ℕ) → AscendFrom (n + 1) ns → ((x : ℕ) → Contains (n ∷ ns) x → Contains (n ∷ ms) x) → (x : ℕ)
    → Contains ns x → Contains ms x
rest_within n ns ms up within x has =
    let at = at_contained ns x has in
    let more = from_least (n + 1) ns at.0 x up at.1 in
    let there = at_contained (n ∷ ms) x (within x (contains_at (n ∷ ns) (suc at.0) x at.1)) in
    elim (head_or_rest n ms there.0 x there.1) [
      | inl same ↦ absurd (let e : n ≡ x = same in omega (arith, more, e))
      | inr rest ↦ rest
    ]

first_least : (n : ℕ) (ns : List ℕ) (x : ℕ) → AscendFrom (n + 1) ns → Contains (n ∷ ns) x → n ≤ x
first_least n ns x up has =
    let at = at_contained (n ∷ ns) x has in from_least n (n ∷ ns) at.0 x (let e : n ≤ n = omega arith in (e, up)) at.1

none_in_nil : {X : Type 0} (x : X) → Contains [] x → ⊥
none_in_nil x has = let lt = has.1 in omega (arith, lt)

-- ascending lists with the same numbers are one
pub one_ascending : (least : ℕ) (ns ms : List ℕ) → AscendFrom least ns → AscendFrom least ms → ((x : ℕ) → Contains ns x → Contains ms x)
    → ((x : ℕ) → Contains ms x → Contains ns x) → ns ≡ ms
one_ascending least [] [] one other within back = refl
one_ascending least [] (m ∷ ms) one other within back = absurd (none_in_nil m (back m (contains_at (m ∷ ms) 0 m refl)))
one_ascending least (n ∷ ns) [] one other within back = absurd (none_in_nil n (within n (contains_at (n ∷ ns) 0 n refl)))
one_ascending least (n ∷ ns) (m ∷ ms) one other within back =
    let low = first_least m ms n other.1 (within n (contains_at (n ∷ ns) 0 n refl)) in
    let high = first_least n ns m one.1 (back m (contains_at (m ∷ ms) 0 m refl)) in
    let e : n ≡ m = omega (arith, low, high) in
    let up = subst (λ (k : ℕ). AscendFrom (k + 1) ns) e one.1 in
    let forth = λ (x : ℕ) (has : Contains (m ∷ ns) x). within x (subst (λ (k : ℕ). Contains (k ∷ ns) x) (sym e) has) in
    let again = λ (x : ℕ) (has : Contains (m ∷ ms) x). subst (λ (k : ℕ). Contains (k ∷ ns) x) e (back x has) in
    ap (λ (k : ℕ). k ∷ ns) e
    ∙ ap (λ (t : List ℕ). m ∷ t) (one_ascending (m + 1) ns ms up other.1 (rest_within m ns ms up forth) (rest_within m ms ns other.1 again))
