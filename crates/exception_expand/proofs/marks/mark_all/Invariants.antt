use Rattle.std.proofs.Common.{take}
use Rattle.std.specs.Prelude.{Contains}
use Rattle.exception_expand.specs.Points.{AreMarks}
use Rattle.exception_expand.proofs.marks.mark_all.Given as goal

abbrev pub invariant-loop-k : goal.invariant-loop-k
invariant-loop-k g l = AreMarks (Contains (take l.k l.items)) (g.T.Listed.all l.design) l.marks
