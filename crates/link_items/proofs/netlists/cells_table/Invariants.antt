use Rattle.std.proofs.Common.{◌≡◌, [], map, take}
use Rattle.texts.specs.Names.{with_names}
use Rattle.cell_types.specs.declared.libraries.Cell.{Cell}
use Rattle.link_items.proofs.netlists.cells_table.Given as goal

abbrev pub invariant-loop-cell : goal.invariant-loop-cell
invariant-loop-cell l = l.names ≡ with_names [] (map (λ (c : Cell). c.name) (take l.cell-index l.cells))
