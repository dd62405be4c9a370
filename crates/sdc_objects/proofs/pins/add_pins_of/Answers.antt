use Rattle.std.proofs.Common.{refl}
use Rattle.sdc_objects.specs.declared.things.Thing.TheVariants as thing
use Rattle.sdc_objects.specs.Things.{pin_named}
use Rattle.list_laws.proofs.Joining.{added, turned}
use Rattle.sdc_objects.proofs.pins.add_pins_of.Goals as goal

pub loop-place-preserved : goal.loop-place-preserved
loop-place-preserved c =
    added (pin_named c.args.query.now c.args.k c.args.cell.now.name) c.args.cell.now.pins c.args.found.now c.loop-place.found c.add_where.new.found
    c.loop-place.place c.item-pin.result.now c.item-pin.ensures c.loop-place.invariant (turned c.loop-place.found c.add_where.new.found c.in_ok-named.named _
    (thing.Pin c.args.k c.loop-place.place) (thing.Pin c.args.k c.loop-place.place) c.in_ok-add_where.ensures c.in_ok-named.ensures refl)
