use Rattle.std.proofs.Common.{[], refl}
use Rattle.sdc_objects.specs.declared.things.Thing.TheVariants as thing
use Rattle.list_laws.proofs.Joining.{added, turned}
use Rattle.case_objects.specs.Spots.{spot, net_spot}
use Rattle.case_objects.proofs.spots.net_spots.Goals as goal

pub loop-place-preserved : goal.loop-place-preserved
loop-place-preserved c =
    let new = spot c.item-net.result.now.name (thing.Net c.item-net.result.now.net) in
    added (net_spot c.args.query.now) c.args.nets.now [] c.loop-place.found c.add_where.new.found c.loop-place.place c.item-net.result.now
    c.item-net.ensures c.loop-place.invariant
    (turned c.loop-place.found c.add_where.new.found c.is_named-named.result _ new new c.in_ok-add_where.ensures c.is_named-named.ensures refl)
