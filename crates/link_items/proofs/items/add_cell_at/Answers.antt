use Rattle.std.proofs.Common.{length}
use Rattle.std.proofs.lemmas.Option.{slice_get_within}
use Rattle.std.proofs.lemmas.Result.{err_from_is_err_and}
use Rattle.cell_types.specs.Libraries.{IsLawfulCell}
use Rattle.link_items.specs.Items.{scope_of}
use Rattle.link_items.proofs.Adding.{found_cell, conns_below, cell_widths, cell_faulty, cell_added, cell_faultless, some_part}
use Rattle.link_items.proofs.Listing.{all_at}
use Rattle.link_items.proofs.items.add_cell_at.Goals as goal

pub item-cell-requires : goal.item-cell-requires
item-cell-requires c = let (none, more) = c.requires.referent in let (found, at, is) = more in slice_get_within c.args.netlist.now.library.now.cells
    c.args.place found at

pub add_cell-requires-clause-below : goal.add_cell-requires-clause-below
add_cell-requires-clause-below c = rw c.as_slice.ensures (conns_below c.args.netlist.now.source.now (length c.args.at.now.nets) c.args.inst.now.cell.now
    c.args.inst.now.name.now c.args.inst.now.conns.now c.requires.item)

pub add_cell-requires-clause-narrow : goal.add_cell-requires-clause-narrow
add_cell-requires-clause-narrow c =
    rw c.as_slice.ensures (cell_widths c.args.netlist.now.source.now (length c.args.at.now.nets) c.args.inst.now.cell.now c.args.inst.now.name.now
    c.args.inst.now.conns.now c.requires.item (found_cell c.args.netlist.now.source.now c.args.netlist.now.library.now c.args.inst.now.cell.now c.args.place
    c.item-cell.result.now c.requires.referent c.item-cell.ensures).0)

pub add_cell-requires-clause-lawful : goal.add_cell-requires-clause-lawful
add_cell-requires-clause-lawful c = all_at IsLawfulCell c.args.netlist.now.library.now.cells c.args.netlist.now.lawful_library.functions c.args.place c.item-cell.result.now
    c.item-cell.ensures

pub push_leaf-requires : goal.push_leaf-requires
push_leaf-requires c =
    some_part (scope_of c.args.netlist.now.source.now c.args.at.now).nets c.as_slice.result.now c.item-cell.result.now c.args.made.now c.add_cell.new.made
    c.in_ok-add_cell.ensures.ok

pub returns-in_err-add_cell-clause-err : goal.returns-in_err-add_cell-clause-err
returns-in_err-add_cell-clause-err c =
    let p = err_from_is_err_and c.from_residual-in_err-add_cell.result c.from_residual-in_err-add_cell.ensures.1 in
    let found = found_cell c.args.netlist.now.source.now c.args.netlist.now.library.now c.args.inst.now.cell.now c.args.place c.item-cell.result.now
    c.requires.referent c.item-cell.ensures in
    rw (p.1, p.2) (cell_faulty c.args.netlist.now.source.now c.args.netlist.now.library.now (scope_of c.args.netlist.now.source.now c.args.at.now)
    c.args.inst.now.cell.now c.args.inst.now.name.now c.args.inst.now.conns.now c.item-cell.result.now c.in_err-add_cell.field-0.0
    found.0 found.1 (rw (c.as_slice.ensures, c.in_ok-full.ensures) at c.in_err-add_cell.ensures.err))

pub returns-clause-added : goal.returns-clause-added
returns-clause-added c =
    let found = found_cell c.args.netlist.now.source.now c.args.netlist.now.library.now c.args.inst.now.cell.now c.args.place c.item-cell.result.now
    c.requires.referent c.item-cell.ensures in
    cell_added c.args.netlist.now.source.now c.args.netlist.now.library.now (scope_of c.args.netlist.now.source.now c.args.at.now) c.args.inst.now.cell.now
    c.args.inst.now.name.now c.args.inst.now.conns.now c.item-cell.result.now c.args.place c.args.made.now c.add_cell.new.made
    c.push_leaf.new.made found.0 found.1 c.item-cell.ensures (rw c.as_slice.ensures at c.in_ok-add_cell.ensures.ok)
    (rw c.in_ok-full.ensures at c.in_ok-push_leaf.ensures)

pub returns-clause-faultless : goal.returns-clause-faultless
returns-clause-faultless c =
    let found = found_cell c.args.netlist.now.source.now c.args.netlist.now.library.now c.args.inst.now.cell.now c.args.place c.item-cell.result.now
    c.requires.referent c.item-cell.ensures in
    let added = rw c.as_slice.ensures at c.in_ok-add_cell.ensures.ok in
    cell_faultless c.args.netlist.now.source.now c.args.netlist.now.library.now (scope_of c.args.netlist.now.source.now c.args.at.now)
    c.args.inst.now.cell.now c.args.inst.now.name.now c.args.inst.now.conns.now c.item-cell.result.now found.0 found.1 added.modelled added.fine
