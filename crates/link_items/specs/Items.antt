-- What one item of an instance adds to a flat netlist.
use Rattle.std.specs.Prelude.{◌≡◌, ℕ, ◌+◌, ◌<◌, List, [], ◌++◌, length, Option, Some, None, slice_get, slice_index_or, map, Contains}
use Rattle.std.specs.Option.{option_map}
use Rattle.std.specs.List.{AllZip}
use Rattle.netlist_types.specs.declared.sources.Source.{Source}
use Rattle.netlist_types.specs.declared.sources.Module.{Module}
use Rattle.netlist_types.specs.declared.sources.Item.{Item}
use Rattle.cell_types.specs.declared.libraries.Library.{Library}
use Rattle.cell_types.specs.declared.libraries.Cell.{Cell}
use Rattle.link_defs.specs.declared.circuits.Part.{Part}
use Rattle.link_defs.specs.Hierarchy.{refs, place_of_module}
use Rattle.link_defs.specs.Flatten.{Scope, own_nets, instance_of}
use Rattle.link_defs.specs.Parts.{item_parts}
use Rattle.link_defs.specs.CellNames.{Leaf, leaves_of}
use Rattle.link_items.specs.declared.made.Instance.{Instance}
use Rattle.link_items.specs.declared.made.LeafPlace.{LeafPlace}
use Rattle.link_items.specs.declared.made.Made.{Made}

-- the module at a place
abbrev pub module_at : Source → ℕ → Module
module_at s place = slice_index_or s.modules place (record { name = []; ports = []; nets = []; items = [] })

-- the instance as the flat netlist has it
abbrev pub scope_of : Source → Instance → Scope
scope_of s i = record { prefix = i.prefix; body = module_at s i.body; nets = i.nets; depth = i.depth }

-- the cell at a place of a library; a primitive has none
abbrev pub IsCellAt : Library → Option ℕ → Option Cell → Type 0
IsCellAt lib None found = found ≡ None
IsCellAt lib (Some place) found = slice_get lib.cells place ≡ found

-- a leaf by its name, and the places of its cell and of its part
pub record IsLeafAt (lib : Library) (parts : List Part) (x : LeafPlace) (l : Leaf) : Type 0 where
  pub name : x.name ≡ l.name
  pub cell : IsCellAt lib x.cell l.cell
  pub part : slice_get parts x.part ≡ Some l.part

-- leaves in their order, by the places of their parts
abbrev pub AreLeavesAt : Library → List Part → List LeafPlace → List Leaf → Type 0
AreLeavesAt lib parts places found = AllZip (IsLeafAt lib parts) places found

-- with the flat nets, the parts and the leaf of one item more
pub record IsAdded (s : Source) (lib : Library) (scope : Scope) (i : Item) (old new : Made) : Type 0 where
  pub count : new.count ≡ old.count + own_nets s lib i
  pub parts : new.parts ≡ old.parts ++ item_parts s lib scope.nets old.count i
  pub more : List LeafPlace
  pub leaves : new.leaves ≡ old.leaves ++ more
  pub each : AreLeavesAt lib new.parts more (leaves_of s lib (record { scope = scope; item = i; first = old.count }))

-- the instance that an item is, where it is one of a module: its module is the one that the item refers to
pub record IsInner (s : Source) (scope : Scope) (i : Item) (first : ℕ) (inner : Option Instance) : Type 0 where
  pub scope_is : option_map (scope_of s) inner ≡ instance_of s scope i first
  pub body : (g : Instance) → inner ≡ Some g → g.body < length s.modules
  pub needed : (g : Instance) → inner ≡ Some g → Contains (map (place_of_module s) (refs i)) g.body
