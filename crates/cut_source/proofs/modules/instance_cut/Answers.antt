use Rattle.std.proofs.lemmas.Option.{slice_get_within}
use Rattle.link_items.proofs.Pinned.{port_bits, lawful_at}
use Rattle.cut_source.proofs.modules.instance_cut.Goals as goal

-- the module at a place of a lawful source is lawful
pub stub_cut-requires : goal.stub_cut-requires
stub_cut-requires c =
    let n = c.args.netlist.now in
    port_bits n.source.now c.item-stub.result.now
    (lawful_at n.source.now n.lawful_source c.in-Module.place c.item-stub.result.now c.item-stub.ensures)

pub item-cell-requires : goal.item-cell-requires
item-cell-requires c =
    let (none, more) = c.in-Cell.ensures in
    let (cell, at, is) = more in
    slice_get_within c.args.netlist.now.library.now.cells c.in-Cell.place cell at
