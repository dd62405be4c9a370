-- The operations on words act on each lane.
use Rattle.std.proofs.Common.{◌≡◌, ℕ, zero, suc, ◌+◌, ◌-◌, ◌<◌, ◌%◌, true, false, not, min, max, bit_and, bit_or, w64, refl, ap, ◌∙◌, arith}
use Rattle.std.specs.Prelude.{◌&&◌, ◌||◌, ◌==◌, ◌^◌}
use Rattle.std.specs.Int.{bit_at as digit, bit_not}
use Rattle.std.specs.Int.RustNames.{bit_xor}
use Rattle.std.proofs.lemmas.Nat.Bits.{bit_at_and, bit_at_or, bit_at_xor, bit_at_not, bit_at-lt, bit_at-zero, bit_at_ones}
use Rattle.net_model.specs.Form.{xor}
use Rattle.net_model.specs.LaneBits.{lane, in_each_lane}
use Rattle.net_model.specs.LaneLaws.{lanes_same}
use Rattle.net_model.specs.declared.lane_words.Lanes.{Lanes}

and_test : (x y : ℕ) → x < 2 → y < 2 → (min x y == 1) ≡ ((x == 1) && (y == 1))
and_test zero zero p q = refl
and_test zero (suc zero) p q = refl
and_test (suc zero) zero p q = refl
and_test (suc zero) (suc zero) p q = refl
and_test (suc (suc x)) y p q = absurd (omega arith)
and_test x (suc (suc y)) p q = absurd (omega arith)

or_test : (x y : ℕ) → x < 2 → y < 2 → (max x y == 1) ≡ ((x == 1) || (y == 1))
or_test zero zero p q = refl
or_test zero (suc zero) p q = refl
or_test (suc zero) zero p q = refl
or_test (suc zero) (suc zero) p q = refl
or_test (suc (suc x)) y p q = absurd (omega arith)
or_test x (suc (suc y)) p q = absurd (omega arith)

xor_test : (x y : ℕ) → x < 2 → y < 2 → ((x + y) % 2 == 1) ≡ xor (x == 1) (y == 1)
xor_test zero zero p q = refl
xor_test zero (suc zero) p q = refl
xor_test (suc zero) zero p q = refl
xor_test (suc zero) (suc zero) p q = refl
xor_test (suc (suc x)) y p q = absurd (omega arith)
xor_test x (suc (suc y)) p q = absurd (omega arith)

not_test : (x : ℕ) → x < 2 → (1 - x == 1) ≡ not (x == 1)
not_test zero p = refl
not_test (suc zero) p = refl
not_test (suc (suc x)) p = absurd (omega arith)

abbrev word : ℕ → Lanes
word n = record { 0 = n }

pub lane_and : (a b : Lanes) (i : ℕ) → lane (word (bit_and a.0 b.0)) i ≡ (lane a i && lane b i)
lane_and a b i =
    ap (λ (k : ℕ). k == 1) (bit_at_and a.0 b.0 i) ∙ and_test (digit a.0 i) (digit b.0 i) (bit_at-lt a.0 i) (bit_at-lt b.0 i)

pub lane_or : (a b : Lanes) (i : ℕ) → lane (word (bit_or a.0 b.0)) i ≡ (lane a i || lane b i)
lane_or a b i =
    ap (λ (k : ℕ). k == 1) (bit_at_or a.0 b.0 i) ∙ or_test (digit a.0 i) (digit b.0 i) (bit_at-lt a.0 i) (bit_at-lt b.0 i)

pub lane_xor : (a b : Lanes) (i : ℕ) → lane (word (bit_xor a.0 b.0)) i ≡ xor (lane a i) (lane b i)
lane_xor a b i =
    ap (λ (k : ℕ). k == 1) (bit_at_xor a.0 b.0 i) ∙ xor_test (digit a.0 i) (digit b.0 i) (bit_at-lt a.0 i) (bit_at-lt b.0 i)

pub lane_not : (a : Lanes) (i : ℕ) → a.0 < 2 ^ 64 → i < 64 → lane (word (bit_not w64 a.0)) i ≡ not (lane a i)
lane_not a i low lt = ap (λ (k : ℕ). k == 1) (bit_at_not w64 a.0 i low lt) ∙ not_test (digit a.0 i) (bit_at-lt a.0 i)

pub lane_ones : (i : ℕ) → i < 64 → lane (word (2 ^ 64 - 1)) i ≡ true
lane_ones i lt = ap (λ (k : ℕ). k == 1) (bit_at_ones 64 i lt)

pub lane_zeros : (i : ℕ) → lane (word 0) i ≡ false
lane_zeros i = ap (λ (k : ℕ). k == 1) (bit_at-zero i)

pub ones_are : word (2 ^ 64 - 1) ≡ in_each_lane true
ones_are = lanes_same (word (2 ^ 64 - 1)) (λ _. true) (omega arith) (λ i lt. lane_ones i lt)

pub zeros_are : word 0 ≡ in_each_lane false
zeros_are = lanes_same (word 0) (λ _. false) (omega arith) (λ i lt. lane_zeros i)
