-- What is cut out of a module.
use Rattle.std.specs.Prelude.{ℕ, Bool, true, false, not, if◌then◌else◌, List, [], ◌∷◌, flat_map, Option, Some, None}
use Rattle.netlist_types.specs.declared.sources.Module.{Module}
use Rattle.netlist_types.specs.declared.sources.Conn.{Conn}
use Rattle.netlist_types.specs.declared.sources.Item.{Item}
use Rattle.netlist_types.specs.declared.sources.Item.TheVariants as item
use Rattle.netlist_types.specs.Lawful.{module_of}
use Rattle.cell_types.specs.declared.libraries.Cell.{Cell}
use Rattle.cell_types.specs.declared.libraries.CellKind.{CellKind}
use Rattle.cell_types.specs.declared.libraries.CellKind.TheVariants as kind
use Rattle.cell_types.specs.declared.libraries.Keeps.{Keeps}
use Rattle.cell_types.specs.declared.libraries.Keeps.TheVariants as keeps
use Rattle.link_defs.specs.declared.cuts.CutItem.{CutItem}
use Rattle.link_defs.specs.Hierarchy.{cell_of}
use Rattle.cut_source.specs.Cuttable.{Plan, is_cut_reference}
use Rattle.cut_source.specs.Pins.{cell_pins, cell_fault, stub_pins, stub_fault}

-- bits are kept, as a latch keeps one, or a flop that captures on another edge
abbrev pub are_bits : Keeps → Bool
are_bits keeps.Nothing = false
are_bits keeps.Bits = true
are_bits keeps.Memory = false

-- such a cell captures on the clock where it stands on it
abbrev pub captures : CellKind → Bool
captures (kind.Comb outs) = true
captures (kind.Flop f) = true
captures (kind.Gate g) = true
captures (kind.Other o) = not (are_bits o.keeps)

-- so does what is of no cell
abbrev pub captures_or_none : Option Cell → Bool
captures_or_none None = true
captures_or_none (Some c) = captures c.kind

-- an instance of a cell, or of nothing that is known, cut out of a module, by its reference, its name and its connections
abbrev pub cell_cut : Module → Option Cell → List ℕ → List ℕ → List Conn → CutItem
cell_cut m cell reference name conns = record {
  «module» = m.name;
  cell = reference;
  name = name;
  clocked = captures_or_none cell;
  pins = cell_pins cell conns;
  fault = cell_fault cell conns;
}

-- an instance of a module without items, cut out of a module
abbrev pub stub_cut : Module → Module → List ℕ → List ℕ → List Conn → CutItem
stub_cut m stub reference name conns = record {
  «module» = m.name;
  cell = reference;
  name = name;
  clocked = true;
  pins = stub_pins stub conns;
  fault = stub_fault stub conns;
}

-- by what the reference stands for
abbrev pub cut_by : Module → Option Module → Option Cell → List ℕ → List ℕ → List Conn → CutItem
cut_by m None cell reference name conns = cell_cut m cell reference name conns
cut_by m (Some stub) cell reference name conns = stub_cut m stub reference name conns

-- an instance that is cut out of a module
abbrev pub instance_cut : Plan → Module → List ℕ → List ℕ → List Conn → CutItem
instance_cut p m reference name conns =
    cut_by m (module_of p.source reference) (cell_of p.library reference) reference name conns

-- what of an item is cut out of a module
abbrev pub item_cut : Plan → Module → Item → List CutItem
item_cut p m (item.Inst cell name conns) = if is_cut_reference p cell then (instance_cut p m cell name conns ∷ []) else []
item_cut p m (item.Prim k name outs ins) = []
item_cut p m (item.Copy to from) = []

-- what is cut out of a module, in the order of its text
abbrev pub items_cut : Plan → Module → List CutItem
items_cut p m = flat_map (item_cut p m) m.items
