-- One turn of the loop over marks.
use Rattle.std.proofs.Common.{◌≡◌, ◌==◌, ℕ, zero, suc, ◌+◌, ◌-◌, ◌<◌, ◌≤◌, true, false, List, drop, refl, arith}
use Rattle.texts.specs.Fronts.{first}
use Rattle.lib_words.specs.Blanks.{after_space}
use Rattle.lib_func.specs.Marks.{marks}

-- another byte comes
pub marks_stop : (b k m : ℕ) (s : List ℕ) → (first (after_space s) == b) ≡ false → marks b k m s ≡ (k, s)
unfolding marks
marks_stop b k zero s e = refl
marks_stop b k (suc m) s e = rw e refl

-- the mark comes
pub marks_more : (b k most : ℕ) (s : List ℕ) → (first (after_space s) == b) ≡ true → k < most → marks b k (most - k) s ≡ marks b (k + 1)
    (most - (k + 1)) (drop 1 (after_space s))
unfolding marks
marks_more b k most s e lt = let left : most - k ≡ suc (most - (k + 1)) = omega arith in rw (left, e, marks) refl

-- there are no more marks than bytes
pub marks_all : (b k most : ℕ) (s : List ℕ) → most ≤ k → k ≤ most → marks b k (most - k) s ≡ (most, s)
unfolding marks
marks_all b k most s past within = let none : most - k ≡ zero = omega arith in let here : k ≡ most = omega arith in rw (none, here, marks) refl
