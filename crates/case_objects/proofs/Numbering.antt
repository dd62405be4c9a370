-- The number of a net among those of the inputs.
use Rattle.std.proofs.Common.{◌≡◌, ◌∙◌, ℕ, zero, suc, ◌<◌, true, false, List, [], ◌∷◌, length, refl, ap, sym, arith, inl, inr}
use Rattle.std.specs.Prelude.{Option, Some, None, option_map, slice_get, ◌==◌}
use Rattle.std.proofs.lemmas.Bool.{cases_Bool}
use Rattle.case_objects.specs.Values.{number_of}

past_first : (net n : ℕ) (ns : List ℕ) (o : Option ℕ) → (n == net) ≡ false → number_of net ns ≡ o → number_of net (n ∷ ns) ≡ option_map suc o
past_first net n ns o none rest = rw none (ap (option_map suc) rest)

pub no_number : (net : ℕ) (ns : List ℕ) → ((i n : ℕ) → slice_get ns i ≡ Some n → (n == net) ≡ false) → number_of net ns ≡ None
no_number net [] none = refl
no_number net (n ∷ ns) none = past_first net n ns None (none zero n refl) (no_number net ns (λ i m at. none (suc i) m at))

pub number_is : (net : ℕ) (ns : List ℕ) (k n : ℕ) → slice_get ns k ≡ Some n → (n == net) ≡ true
    → ((i m : ℕ) → i < k → slice_get ns i ≡ Some m → (m == net) ≡ false) → number_of net ns ≡ Some k
number_is net [] k n at is none = cc
number_is net (m ∷ ns) zero n at is none = let same : m ≡ n = cc in let here : (m == net) ≡ true = ap (λ (x : ℕ). x == net) same ∙ is in rw here refl
number_is net (m ∷ ns) (suc k) n at is none =
    past_first net m ns (Some k) (none zero m (omega arith) refl) (number_is net ns k n at is (λ i x lt there. none (suc i) x (omega arith) there))

option_suc : (o : Option ℕ) (j : ℕ) → option_map suc o ≡ Some j → (i : ℕ) × (o ≡ Some i) × (suc i ≡ j)
option_suc None j e = cc
option_suc (Some i) j e = (i, refl, cc)

-- it is that of one of them
pub number_within : (net : ℕ) (ns : List ℕ) (k : ℕ) → number_of net ns ≡ Some k → k < length ns
number_within net [] k is = cc
number_within net (n ∷ ns) k is = elim (cases_Bool (n == net)) [
  | inl here ↦ let first : number_of net (n ∷ ns) ≡ Some 0 = rw here refl in let same : 0 ≡ k = cc in omega arith
  | inr apart ↦
      let later = option_suc (number_of net ns) k (sym (past_first net n ns (number_of net ns) apart refl) ∙ is) in
      let within = number_within net ns later.0 later.1 in
      omega (arith, within, later.2)
]

pub same_number : (n m : ℕ) → n ≡ m → (n == m) ≡ true
same_number n m same = grind (arith, same)
