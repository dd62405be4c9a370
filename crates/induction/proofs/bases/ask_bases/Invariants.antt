use Rattle.induction.proofs.Basing.{AreOffsetsDone}
use Rattle.induction.proofs.bases.ask_bases.Given as goal

abbrev pub invariant-loop-offset : goal.invariant-loop-offset
invariant-loop-offset l = AreOffsetsDone l.design l.clause l.offset l.base
