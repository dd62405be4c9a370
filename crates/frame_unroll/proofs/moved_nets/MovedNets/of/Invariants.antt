use Rattle.std.proofs.Common.{map}
use Rattle.frame_unroll.specs.Moves.{rows_of}
use Rattle.frame_unroll.proofs.Moving.{AreMovedTo}
use Rattle.frame_unroll.proofs.moved_nets.MovedNets.of.Given as goal

abbrev pub invariant-loop-l : goal.invariant-loop-l
invariant-loop-l l = AreMovedTo l.design l.claim (rows_of l.design.nets (map (λ s. s.keys) l.layers.items)) l.l
