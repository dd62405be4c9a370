use Rattle.std.proofs.Common.{arith}
use Rattle.std.proofs.lemmas.List.{length-map}
use Rattle.net_model.specs.declared.netlist.Gate.{Gate}
use Rattle.query_model.specs.Defined.{layer_gate}
use Rattle.cnf_encode.specs.Listed.{at_place}
use Rattle.cnf_encode.specs.Coned.{gate_points}
use Rattle.cnf_encode.proofs.Covering.{Closed-flat_at_place, place_below, Lists-flat_more, Lists-layer_gates}
use Rattle.cnf_encode.proofs.layers.list_layer_gates.Goals as goal

pub list_layer_gate-requires-clause-gate : goal.list_layer_gate-requires-clause-gate
list_layer_gate-requires-clause-gate c =
    let low = place_below c.args.frames.now c.args.layer_at.cycle (gate_points c.args.late.now.subject.design.now) c.args.gates.now c.loop-j.j c.at.result
    c.requires.gates c.at.ensures in
    omega (arith, low, length-map c.args.late.now.subject.design.now.gates (λ (g : Gate). g.out))

pub list_layer_gate-requires-clause-closed : goal.list_layer_gate-requires-clause-closed
list_layer_gate-requires-clause-closed c =
    let coding = c.args.late.now.cells.now.list.coding in
    let d = c.args.late.now.subject.design.now in
    let claim = c.args.late.now.subject.claim.now in
    let moved = c.args.late.now.subject.moved in
    let cycle = c.args.layer_at.cycle in
    let l = c.args.layer_at.layer in
    Closed-flat_at_place (layer_gate coding d claim moved cycle l) d.gates
    c.at.result c.requires.closed

pub loop-j-preserved : goal.loop-j-preserved
loop-j-preserved c =
    let coding = c.args.late.now.cells.now.list.coding in
    let f = layer_gate coding c.args.late.now.subject.design.now c.args.late.now.subject.claim.now c.args.late.now.subject.moved c.args.layer_at.cycle
    c.args.layer_at.layer in
    Lists-flat_more (at_place f c.args.late.now.subject.design.now.gates) c.args.gates.now c.loop-j.j c.at.result c.at.ensures c.loop-j.invariant
    c.in_ok-list_layer_gate.ensures

pub returns : goal.returns
returns c =
    let d = c.args.late.now.subject.design.now in
    let claim = c.args.late.now.subject.claim.now in
    let moved = c.args.late.now.subject.moved in
    let cycle = c.args.layer_at.cycle in
    let l = c.args.layer_at.layer in
    Lists-layer_gates c.args.late.now.cells.now.list.coding d claim moved c.args.frames.now cycle l c.args.gates.now
    c.loop-j.j c.requires.gates (omega arith) c.loop-j.invariant
