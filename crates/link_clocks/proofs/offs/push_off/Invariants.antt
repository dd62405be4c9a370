use Rattle.std.proofs.Common.{◌≡◌, List, ◌++◌, take}
use Rattle.std.specs.Prelude.{flat_map}
use Rattle.link_defs.specs.CellNames.{Leaf}
use Rattle.link_items.specs.Items.{AreLeavesAt}
use Rattle.link_clocks.specs.Offs.{off_cells}
use Rattle.link_clocks.proofs.offs.push_off.Given as goal

abbrev pub invariant-loop-k : goal.invariant-loop-k
invariant-loop-k l = (found : List Leaf) → AreLeavesAt l.library l.parts l.leaves found → l.cells ≡ l.fn.cells ++ flat_map (off_cells l.even) (take l.k found)
