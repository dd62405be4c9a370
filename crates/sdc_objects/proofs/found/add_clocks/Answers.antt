use Rattle.sdc_objects.specs.Things.{clock_named}
use Rattle.list_laws.proofs.Joining.{added}
use Rattle.sdc_objects.proofs.found.add_clocks.Goals as goal

pub loop-place-preserved : goal.loop-place-preserved
loop-place-preserved c =
    added (clock_named c.args.query.now c.args.scope.now.linked.now.names) c.args.scope.now.script.now.commands c.args.found.now c.loop-place.found
    c.add_clock.new.found c.loop-place.place c.item.result.now c.item.ensures c.loop-place.invariant c.in_ok-add_clock.ensures
