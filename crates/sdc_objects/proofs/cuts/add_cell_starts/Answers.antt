use Rattle.std.proofs.Common.{◌≤◌, List, length, ap, subst}
use Rattle.std.specs.Prelude.{Option}
use Rattle.std.proofs.lemmas.Option.{slice_get_past}
use Rattle.linked_types.specs.declared.names.CellName.{CellName}
use Rattle.sdc_objects.specs.Standing as spec
use Rattle.list_laws.proofs.Joining.{added_nothing}
use Rattle.sdc_objects.proofs.cuts.add_cell_starts.Goals as goal

pub returns-in-None-clause-added : goal.returns-in-None-clause-added
returns-in-None-clause-added c = λ cut.
    let past : length c.args.cells.now ≤ c.args.k = subst (λ (l : List CellName). length l ≤ c.args.k) c.as_slice.ensures c.in-None.ensures.lookup.3 in
    added_nothing c.args.found.now _ (ap (λ (o : Option CellName). spec.meant_by (spec.cell_at_row cut o).from) (slice_get_past c.args.cells.now c.args.k past))
