use Rattle.std.proofs.Common.{arith}
use Rattle.std.proofs.lemmas.List.{length-map}
use Rattle.net_model.specs.declared.netlist.Gate.{Gate}
use Rattle.cnf_encode.specs.Listed.{at_place, gate_alone}
use Rattle.cnf_encode.specs.Coned.{gate_points}
use Rattle.cnf_encode.proofs.Covering.{Closed-gate_at, gate_places, place_below, Lists-flat_more, Lists-gates}
use Rattle.cnf_encode.proofs.cycles.list_gates.Goals as goal

pub item-gates-requires : goal.item-gates-requires
item-gates-requires c = omega (arith, c.requires.cone.of.gates.count, c.requires.cone.lt)

pub list_gate-requires-clause-gate : goal.list_gate-requires-clause-gate
list_gate-requires-clause-gate c =
    let d = c.args.cone.now.design.now in
    let covers = gate_places c.args.frames.now c.args.cycle c.args.cone.now c.item-gates.result.now c.requires.cone c.item-gates.ensures in
    let low = place_below c.args.frames.now c.args.cycle (gate_points d) c.item-gates.result.now c.loop-j.j c.at.result covers c.at.ensures in
    omega (arith, low, length-map d.gates (λ (g : Gate). g.out))

pub list_gate-requires-clause-closed : goal.list_gate-requires-clause-closed
list_gate-requires-clause-closed c =
    Closed-gate_at c.args.cone.now.cells.now.list.coding c.args.cone.now.design.now c.args.cycle c.at.result c.requires.closed

pub loop-j-preserved : goal.loop-j-preserved
loop-j-preserved c =
    let d = c.args.cone.now.design.now in
    Lists-flat_more (at_place (gate_alone c.args.cone.now.cells.now.list.coding d c.args.cycle) d.gates) c.item-gates.result.now c.loop-j.j c.at.result
    c.at.ensures c.loop-j.invariant c.in_ok-list_gate.ensures

pub returns : goal.returns
returns c =
    let covers = gate_places c.args.frames.now c.args.cycle c.args.cone.now c.item-gates.result.now c.requires.cone c.item-gates.ensures in
    Lists-gates c.args.cone.now.cells.now.list.coding c.args.cone.now.design.now c.args.frames.now c.args.cycle c.item-gates.result.now c.loop-j.j covers
    (omega arith) c.loop-j.invariant
