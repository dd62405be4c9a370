-- Marks, and one turn of the loops over comments, gaps and blanks.
use Rattle.std.proofs.Common.{◌≡◌, ℕ, zero, suc, ◌+◌, ◌<◌, Bool, true, false, not, ◌&&◌, List, [], ◌∷◌, length, drop, slice_index, refl, arith, ◌==◌}
use Rattle.std.proofs.lemmas.Bool.Decides.{nat_tests}
use Rattle.sdc_words.specs.Blanks.{takes_next, comment_from, skipped}

-- a text with a mark at its front is not empty
pub first_some : (s : List ℕ) (mark : ℕ) → slice_index s 0 ≡ mark → 0 < mark → 0 < length s
first_some [] mark e some = absurd (omega arith)
first_some (b ∷ s) mark e some = omega arith

module _ (i : ℕ) (is_taken : Bool) (b : ℕ) (s : List ℕ) where
  -- the comment's last line ends here
  pub comment_ends : (b == 10 && not is_taken) ≡ true → comment_from i is_taken (b ∷ s) ≡ i
  unfolding comment_from
  comment_ends e = rw e refl

  -- it does not
  pub comment_more : (b == 10 && not is_taken) ≡ false → comment_from i is_taken (b ∷ s) ≡ comment_from (i + 1) (takes_next is_taken b) s
  unfolding comment_from
  comment_more e = rw e refl

module _ (len : List ℕ → ℕ) where
  -- nothing stands here that may be passed over
  pub skipped_stop : (m : ℕ) (s : List ℕ) → len s ≡ 0 → skipped len m s ≡ s
  unfolding skipped
  skipped_stop zero s e = refl
  skipped_stop (suc m) s e = rw e refl

  -- a piece of n bytes does
  pub skipped_more : (m n : ℕ) (s : List ℕ) → len s ≡ n → 0 < n → 0 < m → (k : ℕ) × (m ≡ k + 1) × (skipped len m s ≡ skipped len k (drop n s))
  unfolding skipped
  skipped_more zero n s e some room = absurd (omega arith)
  skipped_more (suc m) zero s e some room = absurd (omega arith)
  skipped_more (suc m) (suc n) s e some room = let differs : (suc n == 0) ≡ false = grind (arith, nat_tests) in (m, omega arith, rw (e, differs) refl)
