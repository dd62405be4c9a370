use Rattle.real_host.proofs.PieceLemmas.{FrontWritten-more, FrontWritten-kept}
use Rattle.real_host.proofs.pieces.write_piece.Goals as goal
use Rattle.real_host.proofs.pieces.write_piece.Goals.{in-Ok, in-Err+else-ne}

pub loop-preserved : goal.loop-preserved
loop-preserved g c =
    let before = g.W.Write.contents c.args.out.now in
    let mid = g.W.Write.contents c.loop.out in
    let now = g.W.Write.contents c.write.new.self in
    elim c.match-write.branch [
      | in-Ok w ↦ FrontWritten-more before mid now _ _ _ _ c.loop.invariant w.in-Ok.ensures.bound w.in-Ok.ensures.bytes w.done-is
      | in-Err+else-ne w ↦ FrontWritten-kept before mid now _ _ _ c.loop.invariant w.in-Err.ensures.bytes w.done-is
    ]
