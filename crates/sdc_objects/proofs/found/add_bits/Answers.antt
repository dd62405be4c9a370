use Rattle.sdc_objects.specs.Things.{bit_named}
use Rattle.list_laws.proofs.Joining.{added, turned}
use Rattle.sdc_objects.proofs.found.add_bits.Goals as goal

pub loop-place-preserved : goal.loop-place-preserved
loop-place-preserved c =
    added (bit_named c.args.query.now c.args.side) c.args.ports.now c.args.found.now c.loop-place.found c.add_where.new.found c.loop-place.place
    c.item.result.now c.item.ensures c.loop-place.invariant (turned c.loop-place.found c.add_where.new.found c.names_bit-named.result _ c.bit_of.result _
    c.in_ok-add_where.ensures c.names_bit-named.ensures c.bit_of.ensures)
