-- Modules and cells by name, and which modules stand in which.
use Rattle.std.specs.Prelude.{◌≡◌, ℕ, Bool, true, false, not, List, [], ◌∷◌, map, filter, find, flat_map, Option, Some, None, slice_get}
use Rattle.std.specs.List.{list_any, position_or_len}
use Rattle.std.specs.Str.{bytes_eq}
use Rattle.netlist_types.specs.declared.sources.Source.{Source}
use Rattle.netlist_types.specs.declared.sources.Module.{Module}
use Rattle.netlist_types.specs.declared.sources.Item.{Item}
use Rattle.netlist_types.specs.declared.sources.Item.TheVariants as item
use Rattle.netlist_types.specs.declared.sources.Conn.{Conn}
use Rattle.netlist_types.specs.declared.sources.Wire.{Wire}
use Rattle.cell_types.specs.declared.libraries.Library.{Library}
use Rattle.cell_types.specs.declared.libraries.Cell.{Cell}
use Rattle.cell_types.specs.declared.libraries.CellKind.{CellKind}
use Rattle.cell_types.specs.declared.libraries.CellKind.TheVariants as kind
use Rattle.graph_order.specs.Needs.{IsOnCycle}

-- the cell of that name
unfoldable pub cell_of : Library → List ℕ → Option Cell
cell_of lib name = find (λ (c : Cell). bytes_eq c.name name) lib.cells

-- a cell of this kind can be linked
abbrev pub is_modelled : CellKind → Bool
is_modelled (kind.Comb outs) = true
is_modelled (kind.Flop f) = true
is_modelled (kind.Gate g) = true
is_modelled (kind.Other o) = false

-- the references of an item: an instance has one
abbrev pub refs : Item → List (List ℕ)
refs (item.Inst cell name conns) = cell ∷ []
refs (item.Prim kind name outs ins) = []
refs (item.Copy to from) = []

-- the place of each module that a module has instances of; a reference that is no module has the number of the modules
abbrev pub place_of_module : Source → List ℕ → ℕ
place_of_module s name = position_or_len (λ (m : Module). bytes_eq m.name name) s.modules

-- for each module the places of those that it has instances of
abbrev pub module_needs : Source → List (List ℕ)
module_needs s = map (λ (m : Module). map (place_of_module s) (flat_map refs m.items)) s.modules

-- a module that contains itself
abbrev pub IsRecursive : Source → List ℕ → Type 0
IsRecursive s name = (place : ℕ) × (m : Module) × (slice_get s.modules place ≡ Some m) × (m.name ≡ name) × IsOnCycle (module_needs s) place

-- some module has an instance of the module of that name
abbrev pub is_used : Source → List ℕ → Bool
is_used s name = list_any (λ (m : Module). list_any (λ (r : List ℕ). bytes_eq r name) (flat_map refs m.items)) s.modules

-- the modules that none instantiates
abbrev pub tops : Source → List Module
tops s = filter (λ (m : Module). not (is_used s m.name)) s.modules

-- the wires of a pin: none where it is open or not named
abbrev pub wires_in : Option Conn → List Wire
wires_in None = []
wires_in (Some c) = elim c.wires [ None ↦ [] | Some wires ↦ wires ]

-- those of the pin of that name
unfoldable pub wires_of : List Conn → List ℕ → List Wire
wires_of conns pin = wires_in (find (λ (c : Conn). bytes_eq c.pin pin) conns)
