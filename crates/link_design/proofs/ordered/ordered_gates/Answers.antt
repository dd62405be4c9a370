use Rattle.std.proofs.Common.{◌≡◌, ◌∙◌, ℕ, List, length, All, true, false, subst}
use Rattle.std.specs.Prelude.{Contains}
use Rattle.link_defs.specs.Circuits.{all_reads}
use Rattle.link_design.specs.Rows.{is_driven}
use Rattle.std.proofs.lemmas.Result.{err_from_is_err_and}
use Rattle.link_design.proofs.Ordering.{IsListed, listed, listed_below, twice_cause, undriven_is, wired, ordered_is}
use Rattle.link_design.proofs.ordered.ordered_gates.Goals as goal

pub driver_row-requires : goal.driver_row-requires
driver_row-requires c =
    listed_below c.args.circuit.now c.in_ok-gates.gates c.in_ok-sources.sources c.in_ok-drivers.drivers c.requires
    (record { gates_are = c.in_ok-gates.ensures; sources_are = c.in_ok-sources.ensures; drivers_are = c.in_ok-drivers.ensures })

pub returns-in_err-row-clause-err : goal.returns-in_err-row-clause-err
returns-in_err-row-clause-err c =
    let p = err_from_is_err_and c.from_residual-in_err-row.result c.from_residual-in_err-row.ensures.1 in
    let is : IsListed c.args.circuit.now c.in_ok-gates.gates c.in_ok-sources.sources c.in_ok-drivers.drivers =
    record { gates_are = c.in_ok-gates.ensures; sources_are = c.in_ok-sources.ensures; drivers_are = c.in_ok-drivers.ensures } in
    rw (p.1, p.2) (twice_cause c.args.circuit.now c.in_ok-drivers.drivers c.in_err-row.field-0.0
    (listed c.args.circuit.now c.in_ok-gates.gates c.in_ok-sources.sources c.in_ok-drivers.drivers is) c.in_err-row.ensures.err)

pub returns-in-Some-clause-err : goal.returns-in-Some-clause-err
returns-in-Some-clause-err c =
    let is : IsListed c.args.circuit.now c.in_ok-gates.gates c.in_ok-sources.sources c.in_ok-drivers.drivers =
    record { gates_are = c.in_ok-gates.ensures; sources_are = c.in_ok-sources.ensures; drivers_are = c.in_ok-drivers.ensures } in
    let reads = c.as_slice.ensures ∙ c.in_ok-reads.ensures in
    let (read, none) = c.in-Some.ensures.some in
    let read_here : Contains (all_reads c.args.circuit.now) c.in-Some.net = subst (λ (ns : List ℕ). Contains ns c.in-Some.net) reads read in
    let none_here : is_driven c.in_ok-row.row (length c.in_ok-drivers.drivers) c.in-Some.net ≡ false =
    subst (λ (n : ℕ). is_driven c.in_ok-row.row n c.in-Some.net ≡ false) c.len.ensures none in (
      read_here,
      undriven_is c.args.circuit.now c.in_ok-drivers.drivers c.in_ok-row.row c.in-Some.net c.requires
          (listed c.args.circuit.now c.in_ok-gates.gates c.in_ok-sources.sources c.in_ok-drivers.drivers is) c.in_ok-row.ensures.ok read_here none_here,
    )

pub gate_order-requires : goal.gate_order-requires
gate_order-requires c =
    wired c.args.circuit.now c.in_ok-gates.gates c.in_ok-sources.sources c.in_ok-drivers.drivers c.in_ok-row.row c.requires
    (record { gates_are = c.in_ok-gates.ensures; sources_are = c.in_ok-sources.ensures; drivers_are = c.in_ok-drivers.ensures })
    c.in_ok-row.ensures.ok c.in_ok-row.ensures.once

pub returns-clause-ok : goal.returns-clause-ok
returns-clause-ok c =
    ordered_is c.args.circuit.now c.in_ok-gates.gates c.in_ok-marks.marks c.in_ok-order.order c.in_ok-sources.sources c.in_ok-drivers.drivers
    c.in_ok-row.row c.as_slice.result.now c.requires
    (record { gates_are = c.in_ok-gates.ensures; sources_are = c.in_ok-sources.ensures; drivers_are = c.in_ok-drivers.ensures })
    c.in_ok-row.ensures.ok c.in_ok-row.ensures.once c.in_ok-marks.ensures (c.as_slice.ensures ∙ c.in_ok-reads.ensures)
    (subst (λ (n : ℕ). All (λ (net : ℕ). is_driven c.in_ok-row.row n net ≡ true) c.as_slice.result.now) c.len.ensures c.in_default.ensures.none)
    c.in_ok-order.ensures.ok c.in_ok-order.ensures.is c.in_ok-order.ensures.none
