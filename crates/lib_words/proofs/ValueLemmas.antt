-- One turn of the loops over the bytes and comments of a value.
use Rattle.std.proofs.Common.{◌≡◌, ℕ, zero, suc, ◌+◌, ◌<◌, false, List, [], ◌∷◌, ◌==◌, length, drop, get_or, refl, arith}
use Rattle.std.proofs.lemmas.Bool.Decides.{nat_tests}
use Rattle.lib_words.specs.Marks.{space}
use Rattle.lib_words.specs.Blanks.{comment_len}
use Rattle.lib_words.specs.Values.{value_piece, value_from, spaced}

-- the value ends here
pub value_stop : (m i : ℕ) (s : List ℕ) → value_piece s ≡ 0 → value_from m i s ≡ i
unfolding value_from
value_stop zero i s e = refl
value_stop (suc m) i s e = rw e refl

-- it goes on with a piece of n bytes
pub value_more : (m i n : ℕ) (s : List ℕ) → value_piece s ≡ n → 0 < n → 0 < m → (k : ℕ) × (m ≡ k + 1) × (value_from m i s ≡ value_from k (i + n) (drop n s))
unfolding value_from
value_more zero i n s e some room = absurd (omega arith)
value_more (suc m) i zero s e some room = absurd (omega arith)
value_more (suc m) i (suc n) s e some room = let differs : (suc n == 0) ≡ false = grind (arith, nat_tests) in (m, omega arith, rw (e, differs) refl)

-- nothing is left
pub spaced_end : (m : ℕ) (s : List ℕ) → length s ≡ 0 → spaced m s ≡ []
unfolding spaced
spaced_end zero s e = refl
spaced_end (suc m) [] e = refl
spaced_end (suc m) (b ∷ s) e = absurd (omega arith)

-- a byte comes
pub spaced_byte : (m : ℕ) (s : List ℕ) → comment_len s ≡ 0 → 0 < length s → 0 < m → (k : ℕ) × (m ≡ k + 1) × (spaced m s ≡ get_or s 0 0 ∷ spaced k (drop 1 s))
unfolding spaced
spaced_byte zero s e some room = absurd (omega arith)
spaced_byte (suc m) [] e some room = absurd (omega arith)
spaced_byte (suc m) (b ∷ s) e some room = (m, omega arith, rw e refl)

-- a comment of n bytes does
pub spaced_comment : (m n : ℕ) (s : List ℕ) → comment_len s ≡ n → 0 < n → 0 < length s → 0 < m
    → (k : ℕ) × (m ≡ k + 1) × (spaced m s ≡ space ∷ spaced k (drop n s))
unfolding spaced
spaced_comment zero n s e any some room = absurd (omega arith)
spaced_comment (suc m) n [] e any some room = absurd (omega arith)
spaced_comment (suc m) zero (b ∷ s) e any some room = absurd (omega arith)
spaced_comment (suc m) (suc n) (b ∷ s) e any some room = let differs : (suc n == 0) ≡ false = grind (arith, nat_tests) in (m, omega arith, rw (e, differs) refl)
