-- One turn of the loop over what is passed over.
use Rattle.std.proofs.Common.{◌≡◌, ℕ, zero, suc, ◌+◌, ◌<◌, Bool, false, List, drop, slice_index, refl, arith, ◌==◌}
use Rattle.std.proofs.lemmas.Bool.Decides.{nat_tests}
use Rattle.verilog_words.specs.Blanks.{blank_len, skipped}

-- nothing stands here that may be passed over
pub skipped_stop : (m : ℕ) (fresh : Bool) (s : List ℕ) → blank_len fresh s ≡ 0 → skipped m fresh s ≡ s
unfolding skipped
skipped_stop zero fresh s e = refl
skipped_stop (suc m) fresh s e = rw e refl

-- a piece of n bytes does
pub skipped_more : (m n : ℕ) (fresh next : Bool) (s : List ℕ) → blank_len fresh s ≡ n → next ≡ (slice_index s 0 == 10) → 0 < n → 0 < m
    → (k : ℕ) × (m ≡ k + 1) × (skipped m fresh s ≡ skipped k next (drop n s))
unfolding skipped
skipped_more zero n fresh next s e line some room = absurd (omega arith)
skipped_more (suc m) zero fresh next s e line some room = absurd (omega arith)
skipped_more (suc m) (suc n) fresh next s e line some room = let differs : (suc n == 0) ≡ false = grind (arith, nat_tests) in
    (m, omega arith, rw (e, differs, line) refl)
