use Rattle.std.proofs.Common.{take}
use Rattle.link_cuts.specs.Cutting.{IsRowOf}
use Rattle.link_cuts.proofs.marks.row_of.Given as goal

abbrev pub invariant-loop-place : goal.invariant-loop-place
invariant-loop-place l = IsRowOf l.nets (take l.place l.list) l.row
