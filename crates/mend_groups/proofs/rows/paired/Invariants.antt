use Rattle.std.proofs.Common.{◌≡◌, [], ◌∷◌, take}
use Rattle.sdcv_base.specs.Seqs.{each_at}
use Rattle.mend_groups.specs.Rows.{with_beside}
use Rattle.mend_groups.proofs.rows.paired.Given as goal

abbrev pub invariant-loop-place : goal.invariant-loop-place
invariant-loop-place l = l.made ≡ each_at (λ place r. with_beside l.rows place r ∷ []) 0 (take l.place l.rows)
