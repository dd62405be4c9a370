use Rattle.std.proofs.Common.{◌+◌, arith}
use Rattle.query_model.specs.Defined.{bit_definition}
use Rattle.cnf_encode.specs.Listed.{at_place, alone}
use Rattle.cnf_encode.specs.Coned.{bit_points}
use Rattle.cnf_encode.proofs.Covering.{Closed-at_place, length-bit_points, bit_places, place_below, Lists-flat_more, Lists-bits}
use Rattle.cnf_encode.proofs.cycles.list_bits.Goals as goal

pub item-regs-requires : goal.item-regs-requires
item-regs-requires c = omega (arith, c.requires.cone.of.bits.count, c.requires.cone.lt)

pub list_bit-requires-clause-place : goal.list_bit-requires-clause-place
list_bit-requires-clause-place c =
    let d = c.args.cone.now.design.now in
    let covers = bit_places c.args.frames.now c.args.cycle c.args.cone.now c.item-regs.result.now c.requires.cone c.item-regs.ensures in
    let low = place_below c.args.frames.now (c.args.cycle + 1) (bit_points d) c.item-regs.result.now c.loop-j.j c.at.result covers c.at.ensures in
    omega (arith, low, length-bit_points d)

pub list_bit-requires-clause-closed : goal.list_bit-requires-clause-closed
list_bit-requires-clause-closed c =
    let coding = c.args.cone.now.cells.now.list.coding in
    Closed-at_place (bit_definition coding c.args.cone.now.design.now c.args.cycle) c.args.cone.now.design.now.regs c.at.result c.requires.closed

pub loop-j-preserved : goal.loop-j-preserved
loop-j-preserved c =
    let coding = c.args.cone.now.cells.now.list.coding in
    let d = c.args.cone.now.design.now in
    Lists-flat_more (at_place (alone (bit_definition coding d c.args.cycle)) d.regs) c.item-regs.result.now c.loop-j.j c.at.result
    c.at.ensures c.loop-j.invariant c.in_ok-list_bit.ensures

pub returns : goal.returns
returns c =
    let covers = bit_places c.args.frames.now c.args.cycle c.args.cone.now c.item-regs.result.now c.requires.cone c.item-regs.ensures in
    Lists-bits c.args.cone.now.cells.now.list.coding c.args.cone.now.design.now c.args.frames.now c.args.cycle c.item-regs.result.now c.loop-j.j covers
    (omega arith) c.loop-j.invariant
