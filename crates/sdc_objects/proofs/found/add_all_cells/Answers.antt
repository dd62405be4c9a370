use Rattle.std.proofs.Common.{refl}
use Rattle.sdc_objects.specs.declared.things.Thing.TheVariants as thing
use Rattle.sdc_objects.specs.Things.{cell_named}
use Rattle.list_laws.proofs.Joining.{added, turned}
use Rattle.sdc_objects.proofs.found.add_all_cells.Goals as goal

pub loop-place-preserved : goal.loop-place-preserved
loop-place-preserved c =
    added (cell_named c.args.query.now) c.args.cells.now c.args.found.now c.loop-place.found c.add_where.new.found c.loop-place.place
    c.item.result.now c.item.ensures c.loop-place.invariant (turned c.loop-place.found c.add_where.new.found c.is_named-named.result _
    (thing.Cell c.loop-place.place) (thing.Cell c.loop-place.place) c.in_ok-add_where.ensures c.is_named-named.ensures refl)
