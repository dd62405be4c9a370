use Rattle.net_paths.specs.Readers.{readers_at}
use Rattle.frame_unroll.specs.Moves.{Lists, PinMoves}
use Rattle.frame_unroll.proofs.Listed.{HoldsBelow}
use Rattle.frame_unroll.proofs.spreads.tell.Given as goal

abbrev pub invariant-loop-pin : goal.invariant-loop-pin
invariant-loop-pin l =
    Lists (HoldsBelow (readers_at l.readers.rows.items l.net) l.pin-index (PinMoves l.design l.sets l.layer)) l.initial.found.keys l.found.keys
