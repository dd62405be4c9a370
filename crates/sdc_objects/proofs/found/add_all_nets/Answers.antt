use Rattle.std.proofs.Common.{refl}
use Rattle.sdc_objects.specs.declared.things.Thing.TheVariants as thing
use Rattle.sdc_objects.specs.Things.{net_named}
use Rattle.list_laws.proofs.Joining.{added, turned}
use Rattle.sdc_objects.proofs.found.add_all_nets.Goals as goal

pub loop-place-preserved : goal.loop-place-preserved
loop-place-preserved c =
    added (net_named c.args.query.now) c.args.nets.now c.args.found.now c.loop-place.found c.add_where.new.found c.loop-place.place
    c.item-net.result.now c.item-net.ensures c.loop-place.invariant (turned c.loop-place.found c.add_where.new.found c.is_named.result _
    (thing.Net c.item-net.result.now.net) (thing.Net c.item-net.result.now.net) c.in_ok-add_where.ensures c.is_named.ensures refl)
