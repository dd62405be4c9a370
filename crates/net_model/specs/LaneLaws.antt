-- Laws of words of lanes, which the kind of values `Lanes` cites.
use Rattle.std.specs.Prelude.{◌≡◌, ◌<◌, ◌+◌, ◌-◌, ◌*◌, ◌^◌, ◌==◌, ℕ, zero, suc, Bool, true, false, if◌then◌else◌, refl}
use Rattle.std.specs.Int.{bit_at as digit}
use Rattle.std.proofs.Common.{ap, sym, ◌∙◌, arith, inl, inr}
use Rattle.std.proofs.lemmas.Bool.{cases_lt}
use Rattle.std.proofs.lemmas.Nat.Bits.{bit_at_cat_low, bit_at_cat_high, bit_at-lt, same_from_bits_below}
use Rattle.std.proofs.Math.Nat.{pow-succ'}
use Rattle.net_model.specs.Form.{Form, value, IsOver}
use Rattle.net_model.specs.FormLaws.{value_agrees}
use Rattle.net_model.specs.LaneBits.{lane, number_of, lanes_of, in_each_lane, lanes_value}
use Rattle.net_model.specs.declared.lane_words.Lanes.{Lanes}

-- a bit as a digit
abbrev digit_of : Bool → ℕ
digit_of b = if b then 1 else 0

digit_low : (b : Bool) → digit_of b < 2
digit_low true = omega arith
digit_low false = omega arith

digit_first : (b : Bool) → digit (digit_of b) 0 ≡ digit_of b
digit_first true = refl
digit_first false = refl

digit_test : (b : Bool) → (digit_of b == 1) ≡ b
digit_test true = refl
digit_test false = refl

-- the number has n bits
number_low : (n : ℕ) (bits : ℕ → Bool) → number_of n bits < 2 ^ n
unfolding number_of
number_low zero bits = omega arith
number_low (suc n) bits =
    let low = number_low n bits in
    let double : 2 ^ suc n ≡ 2 * 2 ^ n = pow-succ' 2 n in
    by_digit (bits n) low double where
      by_digit : (b : Bool) → number_of n bits < 2 ^ n → 2 ^ suc n ≡ 2 * 2 ^ n → digit_of b * 2 ^ n + number_of n bits < 2 ^ suc n
      by_digit true low double = omega (arith, low, double)
      by_digit false low double = omega (arith, low, double)

-- bit i of the number is the i-th bit
number_digit : (n : ℕ) (bits : ℕ → Bool) (i : ℕ) → i < n → digit (number_of n bits) i ≡ digit_of (bits i)
unfolding number_of
number_digit zero bits i lt = absurd (omega arith)
number_digit (suc n) bits i lt =
    elim (cases_lt i n) [
      | inl low ↦ bit_at_cat_low (digit_of (bits n)) n (number_of n bits) i low ∙ number_digit n bits i low
      | inr high ↦
          let here : i ≡ n = omega arith in
          let zero_left : i - n ≡ 0 = omega arith in
          bit_at_cat_high (digit_of (bits n)) n (number_of n bits) i (number_low n bits) (omega arith)
          ∙ (ap (digit (digit_of (bits n))) zero_left ∙ (digit_first (bits n) ∙ ap (λ (k : ℕ). digit_of (bits k)) (sym here)))
    ]

number_agrees : (n : ℕ) (a b : ℕ → Bool) → ((i : ℕ) → i < n → a i ≡ b i) → number_of n a ≡ number_of n b
unfolding number_of
number_agrees zero a b same = refl
number_agrees (suc n) a b same =
    let here = same n (omega arith) in
    let rest = number_agrees n a b (λ i lt. same i (omega arith)) in
    rw (here, rest) refl

-- a lane of the word with these lanes
pub lane_of : (bits : ℕ → Bool) (i : ℕ) → i < 64 → lane (lanes_of bits) i ≡ bits i
unfolding lanes_of
lane_of bits i lt = ap (λ (k : ℕ). k == 1) (number_digit 64 bits i lt) ∙ digit_test (bits i)

-- words with the same lanes are the same
pub lanes_agree : (a b : ℕ → Bool) → ((i : ℕ) → i < 64 → a i ≡ b i) → lanes_of a ≡ lanes_of b
unfolding lanes_of
lanes_agree a b same = let made : ℕ → Lanes = λ n. record { 0 = n } in ap made (number_agrees 64 a b same)

digit_by_test : (k : ℕ) (b : Bool) → k < 2 → (k == 1) ≡ b → k ≡ digit_of b
digit_by_test k true low is = grind arith
digit_by_test k false low is = grind arith

-- a word with these lanes
pub lanes_same : (w : Lanes) (bits : ℕ → Bool) → w.0 < 2 ^ 64 → ((i : ℕ) → i < 64 → lane w i ≡ bits i) → w ≡ lanes_of bits
unfolding lanes_of
lanes_same w bits low same =
    let made : ℕ → Lanes = λ n. record { 0 = n } in
    ap made
    (same_from_bits_below 64 w.0 (number_of 64 bits) low (number_low 64 bits)
    (λ i lt. digit_by_test (digit w.0 i) (bits i) (bit_at-lt w.0 i) (same i lt) ∙ sym (number_digit 64 bits i lt)))

-- on the same bit in each lane it is the function's bit in each lane
pub lanes_on_bits : (f : Form) (bits : ℕ → Bool) → IsOver 7 f → lanes_value f (λ i. in_each_lane (bits i)) ≡ in_each_lane (value f bits)
lanes_on_bits f bits over =
    lanes_agree (λ i. value f (λ place. lane (in_each_lane (bits place)) i)) (λ _. value f bits)
    (λ i lt. value_agrees f 7 (λ place. lane (in_each_lane (bits place)) i) bits over (λ place low. lane_of (λ _. bits place) i lt))

-- it depends on the places that the function reads alone
pub lanes_agree_at : (f : Form) (n : ℕ) (a b : ℕ → Lanes) → IsOver n f → ((i : ℕ) → i < n → a i ≡ b i) → lanes_value f a ≡ lanes_value f b
lanes_agree_at f n a b over same =
    lanes_agree (λ i. value f (λ place. lane (a place) i)) (λ i. value f (λ place. lane (b place) i))
    (λ i lt. value_agrees f n (λ place. lane (a place) i) (λ place. lane (b place) i) over (λ place low. ap (λ (w : Lanes). lane w i) (same place low)))
