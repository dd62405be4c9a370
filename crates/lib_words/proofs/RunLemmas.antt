-- One turn of the loop over the bytes of a run.
use Rattle.std.proofs.Common.{◌≡◌, ℕ, ◌+◌, ◌<◌, true, false, List, [], ◌∷◌, length, drop, refl, arith}
use Rattle.lib_words.specs.Runs.{ends_run, run_from}

-- the run ends here
pub run_stop : (i : ℕ) (s : List ℕ) → 0 < length s → ends_run s ≡ true → run_from i s ≡ i
unfolding run_from
run_stop i [] some e = absurd (omega arith)
run_stop i (b ∷ s) some e = rw e refl

-- it goes on
pub run_more : (i : ℕ) (s : List ℕ) → 0 < length s → ends_run s ≡ false → run_from i s ≡ run_from (i + 1) (drop 1 s)
unfolding run_from
run_more i [] some e = absurd (omega arith)
run_more i (b ∷ s) some e = rw e refl

-- the text has ended
pub run_ended : (i : ℕ) (s : List ℕ) → length s ≡ 0 → run_from i s ≡ i
unfolding run_from
run_ended i [] e = refl
run_ended i (b ∷ s) e = absurd (omega arith)
