-- The digits of a multiplier.
use Rattle.std.proofs.Common.{◌≡◌, ℕ, zero, suc, ◌+◌, ◌≤◌, ◌<◌, nat_le, Bool, true, false, not, ◌==◌, ◌&&◌, List, [], ◌∷◌, length, refl, arith, subst, Some}
use Rattle.std.specs.Char.{is_ascii_digit}
use Rattle.std.specs.Fmt.{decimal, digits}
use Rattle.std.specs.List.{list_all, range_with_len}
use Rattle.std.specs.Str.Parse.{digits_value}
use Rattle.std.proofs.lemmas.Bool.{and_parts}
use Rattle.std.proofs.lemmas.Bool.Decides.{nat_tests}
use Rattle.sdc_text.specs.Numbers.{is_digits, is_whole, multiplier}

-- what is read of a number: a multiplier; for the hold check, that it is one
abbrev pub Says : Bool → ℕ → List ℕ → Type 0
Says false k text = multiplier text ≡ Some k
Says true k text = is_whole text ≡ true

-- a text is a number that is read so
pub record IsNumber (hold : Bool) (text : List ℕ) (k : ℕ) : Type 0 where
  pub head : ℕ
  pub tail : List ℕ
  pub is : text ≡ head ∷ tail
  pub digits : list_all is_ascii_digit (head ∷ tail) ≡ true
  pub value : Says hold k text

-- a text of digits that is read as k, as a test that computes
abbrev is_text_of : List ℕ → ℕ → Bool
is_text_of text k = is_digits text && digits_value 10 text == k

-- a number from a on is a, or stands later
here_or_later : (p : ℕ → Bool) (a k : ℕ) (same : Bool) → (a == k) ≡ same → p a ≡ true → (a + 1 ≤ k → p k ≡ true) → a ≤ k → p k ≡ true
here_or_later p a k true e here later low = let is : a ≡ k = grind (arith, nat_tests) in subst (λ (x : ℕ). p x ≡ true) is here
here_or_later p a k false e here later low = later (grind (arith, nat_tests))

-- what each number of a range passes, one of them passes
in_range : (p : ℕ → Bool) (n a k : ℕ) → list_all p (range_with_len a n) ≡ true → a ≤ k → k < a + n → p k ≡ true
in_range p zero a k all low high = absurd (omega arith)
in_range p (suc n) a k all low high =
    let (here, more) = and_parts (p a) (list_all p (range_with_len (a + 1) n)) all in
    here_or_later p a k (a == k) refl here (λ above. in_range p n (a + 1) k more above (omega arith)) low

-- the first sixteen, each as it computes
first_sixteen : list_all (λ k. is_text_of (decimal k) k) (range_with_len 1 16) ≡ true
unfolding digits
first_sixteen = refl

-- digits that are read as a multiplier are a number
number_by : (text : List ℕ) (k : ℕ) → 1 ≤ k → k ≤ 16 → is_text_of text k ≡ true → IsNumber false text k
unfolding multiplier
number_by [] k some most e = absurd cc
number_by (b ∷ s) k some most e =
    let (all, value) = and_parts (is_digits (b ∷ s)) (digits_value 10 (b ∷ s) == k) e in
    let (front, digits) = and_parts (not (length (b ∷ s) == 0)) (list_all is_ascii_digit (b ∷ s)) all in
    let is : digits_value 10 (b ∷ s) ≡ k = grind (arith, nat_tests) in
    let low : nat_le 1 k ≡ true = grind (arith, nat_tests) in
    let high : nat_le k 16 ≡ true = grind (arith, nat_tests) in
    record { head = b; tail = s; is = refl; digits = digits; value = rw (is, all, low, high) refl }

-- the digits of a multiplier are read as it
pub number_of : (k : ℕ) → 1 ≤ k → k ≤ 16 → IsNumber false (decimal k) k
number_of k some most = number_by (decimal k) k some most (in_range (λ n. is_text_of (decimal n) n) 16 1 k first_sixteen some (omega arith))

-- the first seventeen are digits
first_digits : list_all (λ k. is_digits (decimal k)) (range_with_len 0 17) ≡ true
unfolding digits
first_digits = refl

-- digits are a number
whole_by : (text : List ℕ) (k : ℕ) → is_digits text ≡ true → IsNumber true text k
whole_by [] k e = absurd cc
whole_by (b ∷ s) k e =
    let (front, digits) = and_parts (not (length (b ∷ s) == 0)) (list_all is_ascii_digit (b ∷ s)) e in
    record { head = b; tail = s; is = refl; digits = digits; value = rw e refl }

-- and so are those of a number of a hold check
pub whole_of : (number k : ℕ) → number ≤ 16 → IsNumber true (decimal number) k
whole_of number k most = whole_by (decimal number) k (in_range (λ n. is_digits (decimal n)) 17 0 number first_digits (omega arith) (omega arith))
