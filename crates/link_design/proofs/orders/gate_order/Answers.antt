use Rattle.std.proofs.Common.{List, ℕ, ap, ◌∙◌, sym, subst}
use Rattle.graph_order.specs.Needs as place
use Rattle.graph_order.specs.Orders.{IsRightOrder, order_of}
use Rattle.link_defs.specs.Circuits.{IsOnCycle}
use Rattle.link_design.specs.Orders.{row_needs}
use Rattle.link_design.proofs.Leading.{gates_ordered, cycle_places, cycle_nets, places_within, gate_of}
use Rattle.link_design.proofs.Needing.{needs_are}
use Rattle.link_design.proofs.orders.gate_order.Goals as goal

pub returns-in-Ok-clause-is : goal.returns-in-Ok-clause-is
returns-in-Ok-clause-is c =
    let is = c.deref.ensures.value ∙ c.in_ok-needs.ensures ∙ ap (λ (n : ℕ). row_needs c.args.gates.now n c.args.row.now) c.len.ensures in
    ap order_of (sym (is ∙ needs_are c.args.gates.now c.args.sources.now c.args.row.now c.requires)) ∙ c.in-Ok.ensures.is

pub returns-in-Ok-clause-ok : goal.returns-in-Ok-clause-ok
returns-in-Ok-clause-ok c =
    let is = c.deref.ensures.value ∙ c.in_ok-needs.ensures ∙ ap (λ (n : ℕ). row_needs c.args.gates.now n c.args.row.now) c.len.ensures in
    gates_ordered c.args.gates.now c.args.sources.now c.args.row.now c.in-Ok.order c.requires
    (subst (λ (n : List (List ℕ)). IsRightOrder n c.in-Ok.order) is c.in-Ok.ensures.ok)

pub returns-in-Ok-clause-none : goal.returns-in-Ok-clause-none
returns-in-Ok-clause-none c = λ net on.
    let is = c.deref.ensures.value ∙ c.in_ok-needs.ensures ∙ ap (λ (n : ℕ). row_needs c.args.gates.now n c.args.row.now) c.len.ensures in
    let (k, cycle) = cycle_places c.args.gates.now c.args.sources.now c.args.row.now c.requires net on in
    c.in-Ok.ensures.none k (subst (λ (n : List (List ℕ)). place.IsOnCycle n k) (sym is) cycle)

pub out_at-requires : goal.out_at-requires
out_at-requires c =
    let is = c.deref.ensures.value ∙ c.in_ok-needs.ensures ∙ ap (λ (n : ℕ). row_needs c.args.gates.now n c.args.row.now) c.len.ensures in
    places_within c.args.gates.now c.args.sources.now c.args.row.now c.in-Err-Loop.place
    (subst (λ (n : List (List ℕ)). place.IsOnCycle n c.in-Err-Loop.place) is (rw c.in-Err-Loop.field-0-is at c.in-Err-Loop.ensures.err))

pub returns-in-Err-Loop-clause-err : goal.returns-in-Err-Loop-clause-err
returns-in-Err-Loop-clause-err c =
    let is = c.deref.ensures.value ∙ c.in_ok-needs.ensures ∙ ap (λ (n : ℕ). row_needs c.args.gates.now n c.args.row.now) c.len.ensures in
    let cycle = subst (λ (n : List (List ℕ)). place.IsOnCycle n c.in-Err-Loop.place) is (rw c.in-Err-Loop.field-0-is at c.in-Err-Loop.ensures.err) in
    let (h, at) = gate_of c.args.gates.now c.in-Err-Loop.place (places_within c.args.gates.now c.args.sources.now c.args.row.now c.in-Err-Loop.place cycle) in
    subst (λ (n : ℕ). IsOnCycle c.args.gates.now n) (sym (c.out_at.ensures h at))
    (cycle_nets c.args.gates.now c.args.sources.now c.args.row.now c.requires c.in-Err-Loop.place h at cycle)
