use Rattle.std.proofs.Common.{◌≡◌, take}
use Rattle.sdcv_base.specs.Seqs.{each_at, where_true}
use Rattle.exception_expand.specs.Points.{has_mark}
use Rattle.exception_expand.proofs.marks.marked.Given as goal

abbrev pub invariant-loop-k : goal.invariant-loop-k
invariant-loop-k g l = l.found ≡ each_at (λ k x. where_true (has_mark l.marks k) x) 0 (take l.k l.all)
