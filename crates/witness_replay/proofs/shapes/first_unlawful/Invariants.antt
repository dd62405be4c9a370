use Rattle.witness_replay.proofs.Kept.{RowsKept}
use Rattle.witness_replay.proofs.shapes.first_unlawful.Given as goal

abbrev pub invariant-loop-t : goal.invariant-loop-t
invariant-loop-t l = RowsKept l.design l.stimulus l.t
