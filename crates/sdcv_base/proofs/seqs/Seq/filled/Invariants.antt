use Rattle.std.proofs.Common.{◌≡◌, replicate}
use Rattle.sdcv_base.proofs.seqs.Seq.filled.Given as goal

abbrev pub invariant-loop : goal.invariant-loop
invariant-loop g l = l.items.items ≡ replicate l.counter l.fn.value
