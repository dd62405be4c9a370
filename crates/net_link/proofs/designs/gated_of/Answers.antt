use Rattle.net_link.specs.GateNets.{parts_of}
use Rattle.net_link.proofs.Gated.{IsOnWay, made_is}
use Rattle.net_link.proofs.Places.{order_below, order_once}
use Rattle.net_link.proofs.designs.gated_of.Goals as goal

pub gate_row-requires-clause-below : goal.gate_row-requires-clause-below
gate_row-requires-clause-below c =
    order_below c.args.circuit.now (parts_of c.in_ok-nets.nets) c.requires.lawful c.in_ok-nets.ensures

pub gate_row-requires-clause-once : goal.gate_row-requires-clause-once
gate_row-requires-clause-once c =
    order_once c.args.circuit.now (parts_of c.in_ok-nets.nets) c.requires.made.1.once c.in_ok-nets.ensures

pub returns-clause-gated : goal.returns-clause-gated
returns-clause-gated c = λ held is.
    let way : IsOnWay c.args.circuit.now c.args.made c.in_ok-nets.nets c.in_ok-row.row = record {
      lawful = c.requires.lawful;
      held = held;
      is = is;
      ordered = c.in_ok-nets.ensures;
      row_is = c.in_ok-row.ensures;
    } in
    made_is c.args.circuit.now c.args.made c.in_ok-nets.nets c.in_ok-row.row c.in_ok-gates.gates c.in_ok-of.of c.in_ok-numbers.numbers
    c.in_ok-gates.ensures c.in_ok-of.ensures way c.in_ok-numbers.ensures
