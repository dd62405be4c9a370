use Rattle.std.proofs.Common.{◌≡◌, ◌++◌, take, map}
use Rattle.link_cuts.specs.Groups.{cell_on, item_at}
use Rattle.link_cuts.proofs.cells.push_cells.Given as goal

abbrev pub invariant-loop-k : goal.invariant-loop-k
invariant-loop-k l = l.cells ≡ l.fn.cells ++ map (cell_on l.scope) (map (item_at l.items) (take l.k l.places))
