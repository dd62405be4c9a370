use Rattle.std.proofs.Common.{arith}
use Rattle.link_design.proofs.Readings.{no_readers, readers_next, hands_below, part_lawful}
use Rattle.link_design.proofs.readers.ClockReaders.of.Goals as goal

pub loop-place-init : goal.loop-place-init
loop-place-init c = no_readers c.args.circuit.now c.in_ok-readers.readers.rows.items c.in_ok-readers.ensures

pub add_part-requires : goal.add_part-requires
add_part-requires c = λ net hands.
    let below = hands_below c.args.circuit.now.nets c.item.result.now net
    (part_lawful c.args.circuit.now c.loop-place.place c.item.result.now c.requires c.item.ensures) hands in
    omega (arith, below, c.loop-place.invariant.len)

pub loop-place-preserved : goal.loop-place-preserved
loop-place-preserved c =
    readers_next c.args.circuit.now c.loop-place.place c.item.result.now c.loop-place.readers.rows.items c.add_part.new.self.rows.items c.requires
    c.item.ensures c.loop-place.invariant c.in_ok-add_part.ensures
