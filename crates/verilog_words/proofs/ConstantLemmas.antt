-- Bits of a constant.
use Rattle.std.proofs.Common.{◌≡◌, ℕ, zero, suc, ◌+◌, ◌/◌, ◌%◌, ◌^◌, ◌==◌, Bool, List, [], ◌∷◌, refl, arith}
use Rattle.verilog_words.specs.Constants.{bits_of}

-- the first bit of one more
pub bits_of_first : (n m value : ℕ) → n ≡ m + 1 → bits_of n value ≡ ((value / 2 ^ m) % 2 == 1) ∷ bits_of m value
unfolding bits_of
bits_of_first zero m value one = absurd (omega arith)
bits_of_first (suc n) m value one = let same : n ≡ m = omega arith in rw same refl

-- no bits are left
pub bits_of_none : (n value : ℕ) → n ≡ 0 → bits_of n value ≡ []
unfolding bits_of
bits_of_none zero value e = refl
bits_of_none (suc n) value e = absurd (omega arith)
