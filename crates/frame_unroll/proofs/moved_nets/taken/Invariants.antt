use Rattle.std.proofs.Common.{[], map}
use Rattle.std.specs.Prelude.{slice_index_or}
use Rattle.frame_unroll.specs.Moves.{Lists, SetMoves, rows_of}
use Rattle.frame_unroll.proofs.Listed.{HoldsBelow}
use Rattle.frame_unroll.proofs.moved_nets.taken.Given as goal

abbrev pub invariant-loop-pin : goal.invariant-loop-pin
invariant-loop-pin l =
    Lists (HoldsBelow (slice_index_or l.sets l.l []) l.pin-index (SetMoves l.design l.sets (rows_of l.design.nets (map (λ s. s.keys) l.layers)) l.l)) []
    l.found.keys
