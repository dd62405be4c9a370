use Rattle.std.proofs.Common.{length}
use Rattle.std.proofs.lemmas.Option.{slice_get_within}
use Rattle.std.proofs.lemmas.Result.{err_from_is_err_and}
use Rattle.link_items.specs.Items.{scope_of}
use Rattle.link_items.proofs.Adding.{found_module, conns_apart, conns_below, module_widths, module_faulty, module_added, module_inner, module_faultless}
use Rattle.link_items.proofs.Pinned.{port_bits, lawful_at}
use Rattle.link_items.proofs.items.add_module_at.Goals as goal

pub item-body-requires : goal.item-body-requires
item-body-requires c = let (m, at, is, named) = c.requires.referent in slice_get_within c.args.netlist.now.source.now.modules c.args.place m at

pub add_module-requires-clause-below : goal.add_module-requires-clause-below
add_module-requires-clause-below c = rw c.as_slice.ensures (conns_below c.args.netlist.now.source.now (length c.args.at.now.nets) c.args.inst.now.cell.now
    c.args.inst.now.name.now c.args.inst.now.conns.now c.requires.item)

pub add_module-requires-clause-bits : goal.add_module-requires-clause-bits
add_module-requires-clause-bits c =
    port_bits c.args.netlist.now.source.now c.item-body.result.now (lawful_at c.args.netlist.now.source.now c.args.netlist.now.lawful_source c.args.place
    c.item-body.result.now c.item-body.ensures)

pub add_module-requires-clause-widths : goal.add_module-requires-clause-widths
add_module-requires-clause-widths c =
    rw c.as_slice.ensures (module_widths c.args.netlist.now.source.now (length c.args.at.now.nets) c.args.inst.now.cell.now c.args.inst.now.name.now
    c.args.inst.now.conns.now c.item-body.result.now c.requires.item
    (found_module c.args.netlist.now.source.now c.args.netlist.now.library.now c.args.inst.now.cell.now c.args.place c.item-body.result.now
    c.requires.referent c.item-body.ensures))

pub add_module-requires-clause-apart : goal.add_module-requires-clause-apart
add_module-requires-clause-apart c = rw c.as_slice.ensures (conns_apart c.args.netlist.now.source.now (length c.args.at.now.nets) c.args.inst.now.cell.now
    c.args.inst.now.name.now c.args.inst.now.conns.now c.requires.item)

pub returns-in_err-nets-clause-err : goal.returns-in_err-nets-clause-err
returns-in_err-nets-clause-err c =
    let p = err_from_is_err_and c.from_residual-in_err-nets.result c.from_residual-in_err-nets.ensures.1 in
    rw (p.1, p.2) (module_faulty c.args.netlist.now.source.now c.args.netlist.now.library.now (scope_of c.args.netlist.now.source.now c.args.at.now)
    c.args.inst.now.cell.now c.args.inst.now.name.now c.args.inst.now.conns.now c.item-body.result.now c.in_err-nets.field-0.0
    (found_module c.args.netlist.now.source.now c.args.netlist.now.library.now c.args.inst.now.cell.now c.args.place c.item-body.result.now
    c.requires.referent c.item-body.ensures)
    (rw (c.as_slice.ensures, c.in_ok-full.ensures) at c.in_err-nets.ensures.err))

pub returns-clause-added : goal.returns-clause-added
returns-clause-added c =
    module_added c.args.netlist.now.source.now c.args.netlist.now.library.now (scope_of c.args.netlist.now.source.now c.args.at.now) c.args.inst.now.cell.now
    c.args.inst.now.name.now c.args.inst.now.conns.now c.item-body.result.now c.args.made.now c.add_module.new.made c.in_ok-nets.nets
    (found_module c.args.netlist.now.source.now c.args.netlist.now.library.now c.args.inst.now.cell.now c.args.place c.item-body.result.now
    c.requires.referent c.item-body.ensures) (rw c.as_slice.ensures at c.in_ok-nets.ensures.ok)

pub returns-clause-inner : goal.returns-clause-inner
returns-clause-inner c =
    module_inner c.args.netlist.now.source.now (scope_of c.args.netlist.now.source.now c.args.at.now) c.args.inst.now.cell.now c.args.inst.now.name.now
    c.args.inst.now.conns.now c.args.made.now.count c.item-body.result.now
    (record { prefix = c.in_ok-prefix.prefix; body = c.args.place; nets = c.in_ok-nets.nets; depth = c.in_ok-depth.depth }) (found_module c.args.netlist.now.source.now
    c.args.netlist.now.library.now c.args.inst.now.cell.now c.args.place c.item-body.result.now c.requires.referent c.item-body.ensures) c.item-body.ensures
    c.in_ok-prefix.ensures
    (rw c.as_slice.ensures at c.in_ok-nets.ensures.ok).nets_are c.in_ok-depth.ensures.ok c.requires.referent.3

pub returns-clause-faultless : goal.returns-clause-faultless
returns-clause-faultless c =
    module_faultless c.args.netlist.now.source.now c.args.netlist.now.library.now (scope_of c.args.netlist.now.source.now c.args.at.now)
    c.args.inst.now.cell.now c.args.inst.now.name.now c.args.inst.now.conns.now c.item-body.result.now (found_module c.args.netlist.now.source.now
    c.args.netlist.now.library.now c.args.inst.now.cell.now c.args.place c.item-body.result.now c.requires.referent c.item-body.ensures)
    (rw c.as_slice.ensures at c.in_ok-nets.ensures.ok).fine
