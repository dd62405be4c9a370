use Rattle.std.proofs.Common.{◌≤◌, List, length, ap, subst}
use Rattle.std.specs.Prelude.{Option}
use Rattle.std.proofs.lemmas.Option.{slice_get_past}
use Rattle.linked_types.specs.declared.names.CellName.{CellName}
use Rattle.sdc_objects.specs.Standing as spec
use Rattle.list_laws.proofs.Joining.{added_nothing}
use Rattle.sdc_objects.proofs.columns.add_pin_at.Goals as goal

pub returns-in-None-clause-added : goal.returns-in-None-clause-added
returns-in-None-clause-added c =
    let past : length c.args.linked.now.names.cells ≤ c.args.k =
    subst (λ (l : List CellName). length l ≤ c.args.k) c.as_slice.ensures c.in-None.ensures.lookup.3 in
    added_nothing c.args.found.now _
    (ap (λ (o : Option CellName). spec.meant_by (spec.pin_at_row c.args.linked.now.design c.args.cut o c.args.place).through)
    (slice_get_past c.args.linked.now.names.cells c.args.k past))
