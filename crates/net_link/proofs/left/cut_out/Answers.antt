use Rattle.std.proofs.Common.{◌++◌, subst, sym, ◌∙◌, List, ap}
use Rattle.std.proofs.lemmas.Result.{err_from_is_err_and}
use Rattle.netlist_types.specs.declared.sources.Source.{Source}
use Rattle.link_defs.specs.declared.circuits.Circuit.{Circuit}
use Rattle.link_defs.specs.declared.cuts.CutCell.{CutCell}
use Rattle.link_defs.specs.declared.cuts.CutItem.{CutItem}
use Rattle.link_defs.specs.declared.cuts.CutSource.{CutSource}
use Rattle.link_defs.specs.Faults.{cell_names_in}
use Rattle.link_defs.specs.Flatten.{flat_of}
use Rattle.link_defs.specs.Judged.{netlist_of}
use Rattle.link_design.specs.Lawful.{IsLawfulCircuit}
use Rattle.link_items.specs.Items.{module_at}
use Rattle.link_cuts.specs.Checks.{IsCellFault}
use Rattle.link_clocks.specs.Netlists.{AreCellsBelow}
use Rattle.link_tops.specs.Clashes.{leaf_names, cut_names}
use Rattle.net_link.specs.Left.{IsDriverCause, IsLimitHere}
use Rattle.net_link.proofs.Joining.{top_within}
use Rattle.net_link.proofs.Leaving.{whole_left, cut_left, cell_cause, driver_cause, clash_cause, limit_cause, names_all}
use Rattle.net_link.proofs.Staging.{top_is, lawful_below}
use Rattle.net_link.proofs.left.cut_out.Goals as goal

abbrev source_of : Source → List CutItem → CutSource
source_of s items = record { source = s; items = items }

pub returns-then-not-options-clause-ok : goal.returns-then-not-options-clause-ok
returns-then-not-options-clause-ok c =
    let s = c.args.netlist.now.source.now in
    let lib = c.args.netlist.now.library.now in
    let o = c.args.options.now in
    let top = module_at s c.args.top in
    let source = source_of s c.args.items.now in (
      netlist_of source lib top o.clock,
      whole_left source lib o top c.args.c (c.is_empty.ensures.0 c.if-is_empty.true) c.if-not-options.true c.requires.circuit
          (lawful_below s lib c.args.top o.clock c.args.c c.args.netlist.now.lawful_source c.args.netlist.now.lawful_library
          (top_within s c.args.top c.requires.top) c.requires.circuit) c.requires.few,
    )

pub judged_circuit-requires-clause-top : goal.judged_circuit-requires-clause-top
judged_circuit-requires-clause-top c = top_within c.args.netlist.now.source.now c.args.top c.requires.top

pub check_drivers-requires : goal.check_drivers-requires
check_drivers-requires c = let (j, is) = c.in_ok-judged.ensures in (c.args.items.now, c.args.options.now, j, is)

pub returns-in_err-check_names-clause-err : goal.returns-in_err-check_names-clause-err
returns-in_err-check_names-clause-err c =
    let p = err_from_is_err_and c.from_residual-in_err-check_names.result c.from_residual-in_err-check_names.ensures.1 in
    let s = c.args.netlist.now.source.now in
    let lib = c.args.netlist.now.library.now in
    let top = module_at s c.args.top in
    let x = c.in_ok-judged.judged in
    let (j, is) = c.in_ok-judged.ensures in
    rw (p.1, p.2) (clash_cause (source_of s c.args.items.now) lib c.args.options.now top j (leaf_names x.flat.leaves ++ cut_names x.cells)
    c.in_err-check_names.field-0.0 (top_is s c.args.top c.requires.top) is.sole
    (names_all lib x.flat.circuit.parts x.flat.leaves j.found x.cells is.below.leaves
    ∙ ap (λ (xs : List CutCell). cell_names_in j.found xs) is.cells) c.in_err-check_names.ensures.err)

pub returns-in_err-check_cells-clause-err : goal.returns-in_err-check_cells-clause-err
returns-in_err-check_cells-clause-err c =
    let p = err_from_is_err_and c.from_residual-in_err-check_cells.result c.from_residual-in_err-check_cells.ensures.1 in
    let s = c.args.netlist.now.source.now in
    let lib = c.args.netlist.now.library.now in
    let top = module_at s c.args.top in
    let (j, is) = c.in_ok-judged.ensures in
    rw (p.1, p.2) (cell_cause (source_of s c.args.items.now) lib c.args.options.now top j c.in_err-check_cells.field-0.0
    (top_is s c.args.top c.requires.top) is.sole
    (subst (λ (xs : List CutCell). IsCellFault xs c.in_err-check_cells.field-0.0) is.cells c.in_err-check_cells.ensures.err))

pub returns-in_err-check_drivers-clause-err : goal.returns-in_err-check_drivers-clause-err
returns-in_err-check_drivers-clause-err c =
    let p = err_from_is_err_and c.from_residual-in_err-check_drivers.result c.from_residual-in_err-check_drivers.ensures.1 in
    let s = c.args.netlist.now.source.now in
    let lib = c.args.netlist.now.library.now in
    let o = c.args.options.now in
    let top = module_at s c.args.top in
    let flat = flat_of s lib top in
    let e = c.in_err-check_drivers.field-0.0 in
    let (j, is) = c.in_ok-judged.ensures in
    rw (p.1, p.2) (driver_cause (source_of s c.args.items.now) lib o top j e (top_is s c.args.top c.requires.top) is.sole
    (subst (λ (xs : List CutCell). IsDriverCause flat j.circuit xs e) is.cells
    (subst (λ (k : Circuit). IsDriverCause flat k c.in_ok-judged.judged.cells e) is.circuit c.in_err-check_drivers.ensures.err)))

pub left_of-requires-clause-lawful : goal.left_of-requires-clause-lawful
left_of-requires-clause-lawful c =
    let (j, is) = c.in_ok-judged.ensures in subst (λ (k : Circuit). IsLawfulCircuit k) (sym is.circuit) is.lawful

pub left_of-requires-clause-nets : goal.left_of-requires-clause-nets
left_of-requires-clause-nets c =
    let (j, is) = c.in_ok-judged.ensures in
    let x = c.in_ok-judged.judged in
    subst (λ (k : Circuit). AreCellsBelow k.nets x.cells) (sym is.circuit)
    (subst (λ (xs : List CutCell). AreCellsBelow j.circuit.nets xs) (sym is.cells) is.nets)

pub returns-in_err-left-clause-err : goal.returns-in_err-left-clause-err
returns-in_err-left-clause-err c =
    let p = err_from_is_err_and c.from_residual-in_err-left.result c.from_residual-in_err-left.ensures.1 in
    let s = c.args.netlist.now.source.now in
    let lib = c.args.netlist.now.library.now in
    let o = c.args.options.now in
    let top = module_at s c.args.top in
    let e = c.in_err-left.field-0.0 in
    let (j, is) = c.in_ok-judged.ensures in
    rw (p.1, p.2) (limit_cause (source_of s c.args.items.now) lib o top j e (top_is s c.args.top c.requires.top) is.sole
    (subst (λ (xs : List CutCell). IsLimitHere j.circuit xs o.wide e) is.cells
    (subst (λ (k : Circuit). IsLimitHere k c.in_ok-judged.judged.cells o.wide e) is.circuit c.in_err-left.ensures.err)))

pub returns-clause-ok : goal.returns-clause-ok
returns-clause-ok c =
    let s = c.args.netlist.now.source.now in
    let lib = c.args.netlist.now.library.now in
    let o = c.args.options.now in
    let top = module_at s c.args.top in
    let (j, is) = c.in_ok-judged.ensures in (
      j,
      cut_left (source_of s c.args.items.now) lib o top j c.in_ok-judged.judged c.in_ok-left.left is (record {
        sound = c.in_ok-check_cells.ensures.ok;
        off = c.in_ok-check_drivers.ensures.off;
        differ = c.in_ok-check_names.ensures.differ;
        apart = c.in_ok-check_names.ensures.none;
      }) c.in_ok-left.ensures.ok (λ i k one two. c.cuts_are_one.ensures j.circuit i k one two),
    )
