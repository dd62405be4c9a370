use Rattle.std.proofs.Common.{◌≡◌, take}
use Rattle.std.specs.Prelude.{flat_map}
use Rattle.link_defs.specs.Cuts.{cells_in}
use Rattle.link_items.specs.declared.made.Instance.{Instance}
use Rattle.link_items.specs.Items.{scope_of}
use Rattle.link_cuts.proofs.cells.cut_cells.Given as goal

abbrev pub invariant-loop-k : goal.invariant-loop-k
invariant-loop-k l = l.cells ≡ flat_map (λ (g : Instance). cells_in l.items (scope_of l.netlist.source.now g)) (take l.k l.scopes)
