use Rattle.std.proofs.Common.{◌≡◌, ◌<◌, ℕ, true}
use Rattle.sdcv_base.specs.Seqs.{is_marked}
use Rattle.net_model.proofs.marks.first_unmarked.Given as goal

abbrev pub invariant-loop-n : goal.invariant-loop-n
invariant-loop-n l = (m : ℕ) → m < l.n → is_marked l.marks m ≡ true
