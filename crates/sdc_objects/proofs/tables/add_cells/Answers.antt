use Rattle.std.proofs.Common.{List, ℕ, take, sym, subst}
use Rattle.glob.specs.Indexes.{IsIndexOf}
use Rattle.linked_types.specs.declared.names.CellName.{CellName}
use Rattle.sdc_objects.specs.Tables.{cell_names}
use Rattle.list_laws.proofs.Joining.{map_next}
use Rattle.sdc_objects.proofs.tables.add_cells.Goals as goal

pub loop-k-preserved : goal.loop-k-preserved
loop-k-preserved c =
    subst (λ (names : List (List ℕ)). IsIndexOf names c.add.new.self)
    (sym (map_next (λ (x : CellName). x.name) c.args.cells.now c.loop-k.k c.item.result.now c.item.ensures))
    (c.in_ok-add.ensures (cell_names (take c.loop-k.k c.args.cells.now)) c.loop-k.invariant)
