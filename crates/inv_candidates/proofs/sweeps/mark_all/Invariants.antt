use Rattle.std.proofs.Common.{take}
use Rattle.inv_candidates.specs.Leading.{AreAdded}
use Rattle.inv_candidates.proofs.sweeps.mark_all.Given as goal

abbrev pub invariant-loop-k : goal.invariant-loop-k
invariant-loop-k l = AreAdded (take l.k l.nets) l.fn.marks l.marks
