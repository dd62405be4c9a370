use Rattle.std.proofs.Common.{List, ℕ, subst, sym, ◌∙◌, arith}
use Rattle.std.proofs.lemmas.List.{length-map}
use Rattle.netlist_types.specs.declared.sources.Module.{Module}
use Rattle.graph_order.specs.Needs.{IsOnCycle}
use Rattle.graph_order.proofs.Acyclic.{cycle_within}
use Rattle.link_defs.specs.Hierarchy.{module_needs}
use Rattle.link_circuit.specs.Orders.{needs_in}
use Rattle.link_circuit.proofs.orders.module_order.Goals as goal

pub returns-in-Ok-clause-none : goal.returns-in-Ok-clause-none
returns-in-Ok-clause-none c = λ name recursive.
    let (place, m, at, named, on) = recursive in
    c.in-Ok.ensures.none place (subst (λ (n : List (List ℕ)). IsOnCycle n place) (sym (c.deref.ensures.value ∙ c.in_ok-needs.ensures)) on)

pub module_name-requires : goal.module_name-requires
module_name-requires c =
    let on = subst (λ (n : List (List ℕ)). IsOnCycle n c.in-Err-Loop.place) (c.deref.ensures.value ∙ c.in_ok-needs.ensures)
    (rw c.in-Err-Loop.field-0-is at c.in-Err-Loop.ensures.err) in
    let len = length-map c.args.netlist.now.source.now.modules (λ (m : Module). needs_in c.args.netlist.now.source.now m) in
    omega (arith, len, cycle_within (module_needs c.args.netlist.now.source.now) c.in-Err-Loop.place on)
