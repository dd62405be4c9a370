use Rattle.std.proofs.Common.{refl, []}
use Rattle.linked_types.specs.declared.names.CellName.{CellName}
use Rattle.sdc_objects.specs.declared.things.Thing.TheVariants as thing
use Rattle.sdc_objects.specs.Things.{cell_of_reg}
use Rattle.list_laws.proofs.Joining.{added, turned}
use Rattle.sdc_objects.proofs.found.all_registers.Goals as goal

pub loop-place-preserved : goal.loop-place-preserved
loop-place-preserved c =
    added (λ k (x : CellName). cell_of_reg k x.reg) c.args.cells.now [] c.loop-place.found c.add_where.new.found c.loop-place.place c.item.result.now
    c.item.ensures c.loop-place.invariant (turned c.loop-place.found c.add_where.new.found c.is_some-registered.result _ (thing.Cell c.loop-place.place)
    (thing.Cell c.loop-place.place) c.in_ok-add_where.ensures c.is_some-registered.ensures refl)
