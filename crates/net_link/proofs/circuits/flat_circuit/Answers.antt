use Rattle.std.proofs.lemmas.Result.{err_from_is_err_and}
use Rattle.link_defs.specs.CellNames.{leaves}
use Rattle.link_defs.specs.Flatten.{flat_of}
use Rattle.link_tops.specs.Clashes.{leaf_names}
use Rattle.link_items.specs.Items.{module_at}
use Rattle.net_link.proofs.Causing.{leaf_cause, names_of_leaves}
use Rattle.net_link.proofs.Staging.{flat_circuit_is}
use Rattle.net_link.proofs.circuits.flat_circuit.Goals as goal

pub returns-in_err-check_cells-clause-err : goal.returns-in_err-check_cells-clause-err
returns-in_err-check_cells-clause-err c =
    let p = err_from_is_err_and c.from_residual-in_err-check_cells.result c.from_residual-in_err-check_cells.ensures.1 in
    let s = c.args.netlist.now.source.now in
    let lib = c.args.netlist.now.library.now in
    let flat = flat_of s lib (module_at s c.args.top) in
    let made = c.in_ok-flat.flat.made in
    rw (p.1, p.2) (leaf_cause s lib flat (leaf_names made.leaves) c.in_err-check_cells.field-0.0
    (names_of_leaves lib made.parts made.leaves (leaves s lib flat) c.in_ok-flat.ensures.ok.leaves) c.in_err-check_cells.ensures.err)

pub returns-clause-ok : goal.returns-clause-ok
returns-clause-ok c =
    let s = c.args.netlist.now.source.now in
    flat_circuit_is s c.args.netlist.now.library.now (module_at s c.args.top) c.args.clock.now c.in_ok-flat.flat c.in_ok-circuit.circuit
    c.in_ok-flat.ensures.ok c.in_ok-flat.ensures.fine c.in_ok-circuit.ensures.circuit c.in_ok-circuit.ensures.scopes c.in_ok-circuit.ensures.leaves
    c.in_ok-check_cells.ensures.differ c.in_ok-check_cells.ensures.none
