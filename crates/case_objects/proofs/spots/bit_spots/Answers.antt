use Rattle.std.proofs.Common.{[], refl}
use Rattle.sdc_objects.specs.declared.things.Thing.TheVariants as thing
use Rattle.list_laws.proofs.Joining.{added, turned}
use Rattle.case_objects.specs.Spots.{spot, bit_spot}
use Rattle.case_objects.proofs.spots.bit_spots.Goals as goal

pub loop-i-preserved : goal.loop-i-preserved
loop-i-preserved c =
    let new = spot c.item-port.result.now.name (thing.In c.loop-i.i) in
    added (bit_spot c.args.query.now) c.args.ins.now [] c.loop-i.found c.add_where.new.found c.loop-i.i c.item-port.result.now
    c.item-port.ensures c.loop-i.invariant
    (turned c.loop-i.found c.add_where.new.found c.names_bit-named.result _ new new c.in_ok-add_where.ensures c.names_bit-named.ensures refl)
