use Rattle.std.proofs.Common.{[]}
use Rattle.sdc_objects.specs.Things.{any_clock}
use Rattle.list_laws.proofs.Joining.{added}
use Rattle.sdc_objects.proofs.found.all_clocks.Goals as goal

pub loop-place-preserved : goal.loop-place-preserved
loop-place-preserved c =
    added (any_clock c.args.scope.now.linked.now.names) c.args.scope.now.script.now.commands [] c.loop-place.found c.add_any_clock.new.found c.loop-place.place c.item.result.now c.item.ensures
    c.loop-place.invariant c.in_ok-add_any_clock.ensures
