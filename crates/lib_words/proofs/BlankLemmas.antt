-- One turn of the loops over white space, and over white space and comments.
use Rattle.std.proofs.Common.{◌≡◌, ℕ, zero, suc, ◌+◌, ◌<◌, true, false, List, [], ◌∷◌, drop, refl, arith, ◌==◌}
use Rattle.std.proofs.lemmas.Bool.Decides.{nat_tests}
use Rattle.lib_words.specs.Blanks.{is_blank, after_space, blank_len, skipped}

-- no white space comes
pub space_stop : (s : List ℕ) → is_blank s ≡ false → after_space s ≡ s
unfolding after_space
space_stop [] e = refl
space_stop (b ∷ s) e = rw e refl

-- one byte of white space comes
pub space_more : (s : List ℕ) → is_blank s ≡ true → after_space s ≡ after_space (drop 1 s)
unfolding after_space
space_more [] e = refl
space_more (b ∷ s) e = rw e refl

-- nothing stands here that may be passed over
pub skipped_stop : (m : ℕ) (s : List ℕ) → blank_len s ≡ 0 → skipped m s ≡ s
unfolding skipped
skipped_stop zero s e = refl
skipped_stop (suc m) s e = rw e refl

-- a piece of n bytes does
pub skipped_more : (m n : ℕ) (s : List ℕ) → blank_len s ≡ n → 0 < n → 0 < m → (k : ℕ) × (m ≡ k + 1) × (skipped m s ≡ skipped k (drop n s))
unfolding skipped
skipped_more zero n s e some room = absurd (omega arith)
skipped_more (suc m) zero s e some room = absurd (omega arith)
skipped_more (suc m) (suc n) s e some room = let differs : (suc n == 0) ≡ false = grind (arith, nat_tests) in (m, omega arith, rw (e, differs) refl)
