use Rattle.std.proofs.Common.{◌≡◌, ◌++◌, map, take}
use Rattle.report_groups.specs.Stars.{starred_rest}
use Rattle.report_groups.proofs.stars.push_pieces.Given as goal

abbrev pub invariant-loop-piece : goal.invariant-loop-piece
invariant-loop-piece l = l.out.items ≡ l.fn.out.items ++ starred_rest (map (λ t. t.now) (take l.piece-index l.pieces))
