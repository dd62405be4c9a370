use Rattle.std.proofs.Common.{subst, List, []}
use Rattle.netlist_types.specs.declared.sources.Source.{Source}
use Rattle.link_defs.specs.declared.cuts.CutItem.{CutItem}
use Rattle.link_defs.specs.declared.cuts.CutSource.{CutSource}
use Rattle.std.proofs.lemmas.Result.{err_from_is_err_and, IfOk-weaker, IfErr-weaker, on_ok_weaker}
use Rattle.netlist_types.specs.declared.sources.Module.{Module}
use Rattle.link_defs.specs.Circuits.{circuit_of}
use Rattle.link_items.specs.Items.{module_at}
use Rattle.link_items.proofs.Pinned.{port_bits, lawful_at}
use Rattle.link_circuit.proofs.Finding.{module_is}
use Rattle.net_link.specs.Limits.{HasFewBits, IsBitCause}
use Rattle.net_link.specs.Ports.{AreTopPorts, IsPortCause}
use Rattle.net_link.specs.Stages.{IsFitting}
use Rattle.net_link.proofs.Causing.{cause_of, bit_cause, port_cause}
use Rattle.net_link.proofs.Joining.{top_within}
use Rattle.net_link.proofs.Staging.{top_is}
use Rattle.net_link.proofs.links.link_below.Goals as goal

pub item-body-requires : goal.item-body-requires
item-body-requires c = top_within c.args.netlist.now.source.now c.args.top c.requires.top

pub top_ports-requires-clause-bits : goal.top_ports-requires-clause-bits
top_ports-requires-clause-bits c =
    let s = c.args.netlist.now.source.now in
    port_bits s c.item-body.result.now (lawful_at s c.args.netlist.now.lawful_source c.args.top c.item-body.result.now c.item-body.ensures)

pub check_bits-requires : goal.check_bits-requires
check_bits-requires c =
    let s = c.args.netlist.now.source.now in
    port_bits s c.item-body.result.now (lawful_at s c.args.netlist.now.lawful_source c.args.top c.item-body.result.now c.item-body.ensures)

abbrev source_of : Source → List CutItem → CutSource
source_of s items = record { source = s; items = items }

pub returns-in_err-check_bits-clause-err : goal.returns-in_err-check_bits-clause-err
returns-in_err-check_bits-clause-err c =
    let p = err_from_is_err_and c.from_residual.result c.from_residual.ensures.1 in
    let s = c.args.netlist.now.source.now in
    let o = c.args.options.now in
    let e = c.in_err-check_bits.field-0.0 in
    rw (p.1, p.2) (bit_cause (source_of s c.args.items.now) c.args.netlist.now.library.now o (module_at s c.args.top) e (top_is s c.args.top c.requires.top)
    (subst (λ (m : Module). IsBitCause o.wide m o.clock e) (module_is s c.args.top c.item-body.result.now c.item-body.ensures) c.in_err-check_bits.ensures.err))

pub returns-in_err-ports-clause-err : goal.returns-in_err-ports-clause-err
returns-in_err-ports-clause-err c =
    let p = err_from_is_err_and c.from_residual-in_err-ports.result c.from_residual-in_err-ports.ensures.1 in
    let s = c.args.netlist.now.source.now in
    let o = c.args.options.now in
    let e = c.in_err-ports.field-0.0 in
    rw (p.1, p.2) (port_cause (source_of s c.args.items.now) c.args.netlist.now.library.now o (module_at s c.args.top) e (top_is s c.args.top c.requires.top)
    (subst (λ (m : Module). IsPortCause m o e) (module_is s c.args.top c.item-body.result.now c.item-body.ensures) c.in_err-ports.ensures.err))

pub flat_circuit-requires : goal.flat_circuit-requires
flat_circuit-requires c = record { top = top_within c.args.netlist.now.source.now c.args.top c.requires.top }

pub returns-in_err-c-clause-err : goal.returns-in_err-c-clause-err
returns-in_err-c-clause-err c =
    let p = err_from_is_err_and c.from_residual-in_err-c.result c.from_residual-in_err-c.ensures.1 in
    let s = c.args.netlist.now.source.now in
    let lib = c.args.netlist.now.library.now in
    let o = c.args.options.now in
    let top = module_at s c.args.top in
    rw (p.1, p.2) (cause_of (source_of s c.args.items.now) lib o top [] (circuit_of s lib top o.clock) c.in_err-c.field-0.0
    (top_is s c.args.top c.requires.top) (c.in_err-c.ensures.err o top [] (circuit_of s lib top o.clock))
    (λ j i judged cut. c.in_err-c.ensures.err o top j.found i))

pub cut_out-requires-clause-few : goal.cut_out-requires-clause-few
cut_out-requires-clause-few c =
    let o = c.args.options.now in
    subst (λ (m : Module). HasFewBits o.wide m o.clock)
    (module_is c.args.netlist.now.source.now c.args.top c.item-body.result.now c.item-body.ensures) c.in_ok-check_bits.ensures.ok

pub named_design-requires-clause-left : goal.named_design-requires-clause-left
named_design-requires-clause-left c = let (j, left) = c.in_ok-left.ensures.ok in (c.args.items.now, j, left)

pub returns-clause-ok : goal.returns-clause-ok
returns-clause-ok c =
    let (j, left) = c.in_ok-left.ensures.ok in
    IfOk-weaker c.named_design.result _ _ (λ l each. each c.args.items.now j left) c.named_design.ensures.ok

pub returns-clause-err : goal.returns-clause-err
returns-clause-err c =
    let (j, left) = c.in_ok-left.ensures.ok in
    IfErr-weaker c.named_design.result _ _ (λ e each. each c.args.items.now j left) c.named_design.ensures.err

pub returns-clause-none : goal.returns-clause-none
returns-clause-none c =
    let (j, left) = c.in_ok-left.ensures.ok in
    on_ok_weaker c.named_design.result (λ each. each c.args.items.now j left) c.named_design.ensures.none

pub named_design-requires-clause-ports : goal.named_design-requires-clause-ports
named_design-requires-clause-ports c =
    subst (λ (m : Module). AreTopPorts m c.args.options.now c.in_ok-ports.ports)
    (module_is c.args.netlist.now.source.now c.args.top c.item-body.result.now c.item-body.ensures) c.in_ok-ports.ensures.ok

pub named_design-requires-clause-fitting : goal.named_design-requires-clause-fitting
named_design-requires-clause-fitting c =
    let body = c.item-body.result.now in
    let o = c.args.options.now in
    let fitting : IsFitting body o = record { ports = c.in_ok-ports.ensures.names; settings = c.in_ok-ports.ensures.settings } in
    subst (λ (m : Module). IsFitting m o) (module_is c.args.netlist.now.source.now c.args.top body c.item-body.ensures) fitting
