use Rattle.sdc_objects.specs.Things.{pins_named}
use Rattle.list_laws.proofs.Joining.{added}
use Rattle.sdc_objects.proofs.pins.add_all_pins.Goals as goal

pub loop-k-preserved : goal.loop-k-preserved
loop-k-preserved c =
    added (pins_named c.args.query.now) c.args.cells.now c.args.found.now c.loop-k.found c.add_pins_of.new.found c.loop-k.k c.item.result.now c.item.ensures
    c.loop-k.invariant c.in_ok-add_pins_of.ensures
