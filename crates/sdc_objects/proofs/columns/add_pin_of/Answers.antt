use Rattle.std.proofs.Common.{◌≤◌, List, length, ap, subst}
use Rattle.std.specs.Prelude.{Option}
use Rattle.std.proofs.lemmas.Option.{slice_get_past}
use Rattle.linked_types.specs.declared.names.PinName.{PinName}
use Rattle.sdc_objects.specs.Standing as spec
use Rattle.list_laws.proofs.Joining.{added_nothing}
use Rattle.sdc_objects.proofs.columns.add_pin_of.Goals as goal

pub returns-in-None-clause-added : goal.returns-in-None-clause-added
returns-in-None-clause-added c =
    let past : length c.args.cell.now.pins ≤ c.args.place =
    subst (λ (l : List PinName). length l ≤ c.args.place) c.as_slice.ensures c.in-None.ensures.lookup.3 in
    added_nothing c.args.found.now _
    (ap (λ (o : Option PinName). spec.meant_by (spec.role_row c.args.design.now c.args.cut c.args.cell.now.reg o).through)
    (slice_get_past c.args.cell.now.pins c.args.place past))
