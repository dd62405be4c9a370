use Rattle.std.proofs.Common.{◌≡◌, map, take}
use Rattle.cell_lib.specs.Cells.{cell_of}
use Rattle.cell_lib.proofs.cells.cells_of.Given as goal

abbrev pub invariant-loop-group : goal.invariant-loop-group
invariant-loop-group l = l.found ≡ map cell_of (take l.group-index l.groups)
