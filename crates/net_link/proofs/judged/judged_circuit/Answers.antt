use Rattle.std.proofs.Common.{◌≡◌, ℕ, ap, ◌∙◌, List, map}
use Rattle.netlist_types.specs.declared.sources.Source.{Source}
use Rattle.cell_types.specs.declared.libraries.Library.{Library}
use Rattle.link_circuit.specs.declared.circuits.FlatCircuit.{FlatCircuit}
use Rattle.link_defs.specs.declared.cuts.CutCell.{CutCell}
use Rattle.link_defs.specs.declared.cuts.CutItem.{CutItem}
use Rattle.link_defs.specs.declared.cuts.CutSource.{CutSource}
use Rattle.link_defs.specs.Cuts.{cut_cells}
use Rattle.link_defs.specs.Flatten.{flat_of}
use Rattle.link_defs.specs.Judged.{netlist_of}
use Rattle.link_items.specs.Items.{module_at, scope_of}
use Rattle.linked_types.specs.declared.options.LinkOptions.{LinkOptions}
use Rattle.net_link.proofs.Cutting.{placed_all}
use Rattle.net_link.proofs.Leaving.{IsOfTop, cells_fit, clock_below, whole_below, whole_netlist}
use Rattle.net_link.proofs.Staging.{lawful_below}
use Rattle.net_link.specs.Stages.{IsFlatCircuit}
use Rattle.net_link.proofs.judged.judged_circuit.Goals as goal

abbrev source_of : Source → List CutItem → CutSource
source_of s items = record { source = s; items = items }

-- the cells are those of the items
these : (s : Source) (lib : Library) (place : ℕ) (o : LinkOptions) (items : List CutItem) (cells : List CutCell) (c : FlatCircuit)
    → cells ≡ cut_cells items (map (scope_of s) c.scopes) → IsFlatCircuit s lib (module_at s place) o.clock c
    → cells ≡ cut_cells items (flat_of s lib (module_at s place)).scopes
these s lib place o items cells c is below = is ∙ ap (cut_cells items) below.below.scopes

pub cut_cells-requires-clause-scopes : goal.cut_cells-requires-clause-scopes
cut_cells-requires-clause-scopes c = placed_all c.args.netlist.now.source.now c.args.c.scopes c.requires.circuit.below.are_scopes

pub returns-then-not-options : goal.returns-then-not-options
returns-then-not-options c =
    let s = c.args.netlist.now.source.now in
    let lib = c.args.netlist.now.library.now in
    let o = c.args.options.now in
    let source = source_of s c.args.items.now in
    let of : IsOfTop source lib c.args.top o c.args.c = record {
      source = c.args.netlist.now.lawful_source;
      library = c.args.netlist.now.lawful_library;
      place_in = c.requires.top;
      circuit = c.requires.circuit;
      items = c.requires.items;
      few = c.requires.few;
    } in
    let is = these s lib c.args.top o c.args.items.now c.in_ok-cells.cells c.args.c c.in_ok-cells.ensures c.requires.circuit in (
      netlist_of source lib (module_at s c.args.top) o.clock,
      whole_below source lib c.args.top o c.args.c c.in_ok-cells.cells of is c.if-not-options.true,
    )

pub on_clock-requires-clause-lawful : goal.on_clock-requires-clause-lawful
on_clock-requires-clause-lawful c =
    let s = c.args.netlist.now.source.now in
    lawful_below s c.args.netlist.now.library.now c.args.top c.args.options.now.clock c.args.c c.args.netlist.now.lawful_source
    c.args.netlist.now.lawful_library c.requires.top c.requires.circuit

pub on_clock-requires-clause-leaves : goal.on_clock-requires-clause-leaves
on_clock-requires-clause-leaves c =
    let s = c.args.netlist.now.source.now in
    let lib = c.args.netlist.now.library.now in
    let o = c.args.options.now in
    let source = source_of s c.args.items.now in
    let is = these s lib c.args.top o c.args.items.now c.in_ok-cells.cells c.args.c c.in_ok-cells.ensures c.requires.circuit in (
      netlist_of source lib (module_at s c.args.top) o.clock,
      whole_netlist source lib c.args.top o c.args.c c.in_ok-cells.cells c.requires.circuit is,
    )

pub on_clock-requires-clause-nets : goal.on_clock-requires-clause-nets
on_clock-requires-clause-nets c =
    let s = c.args.netlist.now.source.now in
    let lib = c.args.netlist.now.library.now in
    let o = c.args.options.now in
    let source = source_of s c.args.items.now in
    cells_fit source lib c.args.top o c.args.c c.in_ok-cells.cells (record {
      source = c.args.netlist.now.lawful_source;
      library = c.args.netlist.now.lawful_library;
      place_in = c.requires.top;
      circuit = c.requires.circuit;
      items = c.requires.items;
      few = c.requires.few;
    }) (these s lib c.args.top o c.args.items.now c.in_ok-cells.cells c.args.c c.in_ok-cells.ensures c.requires.circuit)

pub returns : goal.returns
returns c =
    let s = c.args.netlist.now.source.now in
    let lib = c.args.netlist.now.library.now in
    let o = c.args.options.now in
    let source = source_of s c.args.items.now in
    let of : IsOfTop source lib c.args.top o c.args.c = record {
      source = c.args.netlist.now.lawful_source;
      library = c.args.netlist.now.lawful_library;
      place_in = c.requires.top;
      circuit = c.requires.circuit;
      items = c.requires.items;
      few = c.requires.few;
    } in
    let is = these s lib c.args.top o c.args.items.now c.in_ok-cells.cells c.args.c c.in_ok-cells.ensures c.requires.circuit in
    let n = netlist_of source lib (module_at s c.args.top) o.clock in
    let r = c.in_ok-judged.ensures.judged n (whole_netlist source lib c.args.top o c.args.c c.in_ok-cells.cells c.requires.circuit is) in (
      r.netlist,
      clock_below source lib c.args.top o c.args.c c.in_ok-judged.judged of c.if-not-options.false r
          c.in_ok-judged.ensures.scopes c.in_ok-judged.ensures.lawful c.in_ok-judged.ensures.nets c.judged_is_one.ensures,
    )
