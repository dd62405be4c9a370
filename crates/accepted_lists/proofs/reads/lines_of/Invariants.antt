use Rattle.std.proofs.Common.{◌≡◌, ◌+◌, [], map, drop}
use Rattle.accepted_lists.specs.Lists.{with_lines}
use Rattle.accepted_lists.proofs.reads.lines_of.Given as goal

abbrev pub invariant-loop-place : goal.invariant-loop-place
invariant-loop-place l =
    with_lines 1 [] (map (λ t. t.now) l.pieces) ≡ with_lines (l.place + 1) l.lines (map (λ t. t.now) (drop l.place l.pieces))
