use Rattle.real_host.proofs.PieceLemmas.{FrontWritten}
use Rattle.real_host.proofs.pieces.write_piece.Given as goal

abbrev pub invariant-loop : goal.invariant-loop
invariant-loop g l = FrontWritten (g.W.Write.contents l.fn.out) (g.W.Write.contents l.out) l.piece l.done
