use Rattle.std.proofs.Common.{◌≡◌, ℕ, List, map, subst, sym, ◌∙◌, ap}
use Rattle.std.proofs.lemmas.Result.{IfOk-weaker}
use Rattle.graph_order.specs.Needs.{IsOnCycle}
use Rattle.graph_order.specs.Orders.{order_of}
use Rattle.link_defs.specs.GateOrders.{IsGateOrderOf}
use Rattle.net_link.specs.declared.gate_nets.GateNets.{GateNets}
use Rattle.net_link.specs.GateNets.{nets_at, parts_of}
use Rattle.net_link.specs.Rows.{needs_by}
use Rattle.net_link.proofs.Loops.{acyclic}
use Rattle.net_link.proofs.Places.{all_below, all_once, needs_are, order_is}
use Rattle.net_link.proofs.orders.ordered_nets.Goals as goal

pub gate_row-requires-clause-below : goal.gate_row-requires-clause-below
gate_row-requires-clause-below c = all_below c.args.circuit.now c.in_ok-gates.gates c.requires.lawful c.in_ok-gates.ensures

pub gate_row-requires-clause-once : goal.gate_row-requires-clause-once
gate_row-requires-clause-once c = all_once c.args.circuit.now c.in_ok-gates.gates c.requires.once c.in_ok-gates.ensures

pub places_in_order-requires : goal.places_in_order-requires
places_in_order-requires c = λ place on.
    let needs : List (List ℕ) = map (needs_by c.args.above.now c.in_ok-row.row) c.in_ok-gates.gates in
    acyclic c.args.circuit.now needs c.requires.once c.requires.clocked
    (needs_are c.args.circuit.now c.args.above.now c.in_ok-row.row c.in_ok-gates.gates c.requires c.in_ok-gates.ensures c.in_ok-row.ensures) place
    (subst (λ (ns : List (List ℕ)). IsOnCycle ns place) (c.deref.ensures.value ∙ c.in_ok-needs.ensures) on)

pub returns : goal.returns
returns c =
    let above = c.args.above.now in
    let row = c.in_ok-row.row in
    let gates : List GateNets = c.in_ok-gates.gates in
    let found = ap order_of (sym (c.deref.ensures.value ∙ c.in_ok-needs.ensures)) ∙ c.in_ok-places.ensures.is in
    let ordered = order_is c.args.circuit.now above row c.in_ok-places.places gates c.requires c.in_ok-gates.ensures c.in_ok-row.ensures found in
    IfOk-weaker c.in_order.result (λ list. list ≡ map (nets_at gates) c.in_ok-places.places) (λ list. IsGateOrderOf c.args.circuit.now (parts_of list))
    (λ list is. subst (λ (xs : List GateNets). IsGateOrderOf c.args.circuit.now (parts_of xs)) (sym is) ordered) c.in_order.ensures
