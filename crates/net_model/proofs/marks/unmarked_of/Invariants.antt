use Rattle.std.proofs.Common.{◌≡◌, ◌<◌, ℕ, true, get_or}
use Rattle.sdcv_base.specs.Seqs.{is_marked}
use Rattle.net_model.proofs.marks.unmarked_of.Given as goal

abbrev pub invariant-loop-i : goal.invariant-loop-i
invariant-loop-i l = (j : ℕ) (d : ℕ) → j < l.i → is_marked l.marks (get_or l.numbers j d) ≡ true
