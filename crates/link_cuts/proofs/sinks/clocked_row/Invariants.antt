use Rattle.std.proofs.Common.{◌≡◌, take, map}
use Rattle.link_defs.specs.Cuts.{is_clocked}
use Rattle.link_design.specs.Trees.{tree_of}
use Rattle.link_cuts.proofs.sinks.clocked_row.Given as goal

abbrev pub invariant-loop-cell : goal.invariant-loop-cell
invariant-loop-cell l = l.row ≡ map (is_clocked (tree_of l.tree)) (take l.cell-index l.cells)
