use Rattle.std.proofs.Common.{length, arith}
use Rattle.query_model.specs.Defined.{input_definition}
use Rattle.cnf_encode.proofs.Listing.{Closed-below}
use Rattle.cnf_encode.proofs.Covering.{input_places, place_below, Lists-flat_more, Lists-inputs}
use Rattle.cnf_encode.proofs.cycles.list_inputs.Goals as goal

pub item-inputs-requires : goal.item-inputs-requires
item-inputs-requires c = omega (arith, c.requires.cone.of.inputs.count, c.requires.cone.lt)

pub list_input-requires-clause-input : goal.list_input-requires-clause-input
list_input-requires-clause-input c =
    place_below c.args.frames.now c.args.cycle c.args.cone.now.design.now.inputs c.item-inputs.result.now c.loop-j.j c.at.result
    (input_places c.args.frames.now c.args.cycle c.args.cone.now c.item-inputs.result.now c.requires.cone c.item-inputs.ensures)
    c.at.ensures

pub list_input-requires-clause-closed : goal.list_input-requires-clause-closed
list_input-requires-clause-closed c =
    let d = c.args.cone.now.design.now in
    let covers = input_places c.args.frames.now c.args.cycle c.args.cone.now c.item-inputs.result.now c.requires.cone c.item-inputs.ensures in
    Closed-below (input_definition d c.args.cone.now.live c.args.cycle) (length d.inputs) c.at.result
    (place_below c.args.frames.now c.args.cycle d.inputs c.item-inputs.result.now c.loop-j.j c.at.result covers c.at.ensures) c.requires.closed

pub loop-j-preserved : goal.loop-j-preserved
loop-j-preserved c =
    Lists-flat_more (input_definition c.args.cone.now.design.now c.args.cone.now.live c.args.cycle) c.item-inputs.result.now c.loop-j.j c.at.result
    c.at.ensures
    c.loop-j.invariant c.in_ok-list_input.ensures

pub returns : goal.returns
returns c =
    Lists-inputs c.args.cone.now.design.now c.args.frames.now c.args.cone.now.live c.args.cycle c.item-inputs.result.now c.loop-j.j
    (input_places c.args.frames.now c.args.cycle c.args.cone.now c.item-inputs.result.now c.requires.cone c.item-inputs.ensures)
    (omega arith) c.loop-j.invariant
