-- The full names of cells, with their pins.
use Rattle.std.specs.Prelude.{◌≡◌, ℕ, ◌+◌, ◌-◌, Bool, if◌then◌else◌, List, [], ◌∷◌, ◌++◌, length, map, filter, flat_map, zip, Contains}
use Rattle.std.specs.Prelude.{Option, Some, None, slice_get, nat_eq}
use Rattle.std.specs.List.{list_any}
use Rattle.texts.specs.Names.{each_once}
use Rattle.net_model.specs.declared.netlist.Gate.{Gate}
use Rattle.net_model.specs.declared.claims.PinRef.{PinRef}
use Rattle.net_model.specs.declared.claims.PinRef.TheVariants.{GateIn, RegIn}
use Rattle.netlist_types.specs.declared.sources.Source.{Source}
use Rattle.netlist_types.specs.declared.sources.Item.TheVariants as item
use Rattle.cell_types.specs.declared.libraries.Library.{Library}
use Rattle.cell_types.specs.declared.libraries.Cell.{Cell}
use Rattle.cell_types.specs.declared.libraries.CellKind.{CellKind}
use Rattle.cell_types.specs.declared.libraries.CellKind.TheVariants as kind
use Rattle.cell_types.specs.declared.libraries.CombOut.{CombOut}
use Rattle.cell_types.specs.declared.libraries.FlopOut.{FlopOut}
use Rattle.link_defs.specs.declared.circuits.Part.{Part}
use Rattle.link_defs.specs.declared.circuits.Part.TheVariants as part
use Rattle.linked_types.specs.declared.names.CellName.{CellName}
use Rattle.linked_types.specs.declared.names.PinName.{PinName}
use Rattle.linked_types.specs.declared.names.PinRole.TheVariants as role
use Rattle.linked_types.specs.declared.names.NetName.{NetName}
use Rattle.link_defs.specs.Hierarchy.{cell_of}
use Rattle.netlist_types.specs.Lawful.{module_of}
use Rattle.link_defs.specs.Flatten.{Flat, Located, full_names}
use Rattle.link_defs.specs.Parts.{parts_of}
use Rattle.link_defs.specs.Circuits.{part_regs, part_outs, part_drives}
use Rattle.link_defs.specs.Designs.{is_on_tree}

-- the output pins of a cell that is modelled
abbrev pub out_pins : CellKind → List (List ℕ)
out_pins (kind.Comb outs) = map (λ (o : CombOut). o.name) outs
out_pins (kind.Flop f) = map (λ (o : FlopOut). o.name) f.outs
out_pins (kind.Gate g) = g.out ∷ []
out_pins (kind.Other o) = []

-- the clock pin of a flop or a clock gate
abbrev pub clock_pins : CellKind → List (List ℕ)
clock_pins (kind.Comb outs) = []
clock_pins (kind.Flop f) = f.clock ∷ []
clock_pins (kind.Gate g) = g.clock ∷ []
clock_pins (kind.Other o) = []

-- the pins that stand on the clock tree: of a clock gate its output too
abbrev pub tree_pins : CellKind → List (List ℕ)
tree_pins (kind.Comb outs) = []
tree_pins (kind.Flop f) = f.clock ∷ []
tree_pins (kind.Gate g) = g.clock ∷ g.out ∷ []
tree_pins (kind.Other o) = []

-- a leaf of the flat netlist: its full name, its cell (a primitive has none), and its part
pub record Leaf : Type 0 where
  pub name : List ℕ
  pub cell : Option Cell
  pub part : Part

-- the last part of an item: what it is without its constants
abbrev pub last_part : List Part → Option Part
last_part [] = None
last_part (p ∷ []) = Some p
last_part (p ∷ q ∷ ps) = last_part (q ∷ ps)

-- a leaf where there is a part: a cell that is not modelled has none
abbrev pub leaf_if_any : List ℕ → Option Cell → Option Part → List Leaf
leaf_if_any name cell None = []
leaf_if_any name cell (Some p) = (record { name = name; cell = cell; part = p }) ∷ []

-- the leaf of an instance of a cell, by its full name; an instance of a module is none
abbrev pub cell_leaves : Source → Library → Located → List ℕ → List ℕ → List Leaf
cell_leaves s lib at cell full = elim (module_of s cell) [
  | Some m ↦ []
  | None ↦ elim (cell_of lib cell) [ None ↦ [] | Some c ↦ leaf_if_any full (Some c) (last_part (parts_of s lib at)) ]
]

-- the leaf that an item is: an instance of a cell, or a primitive with a name
unfoldable pub leaves_of : Source → Library → Located → List Leaf
leaves_of s lib at = elim at.item [
  | item.Inst cell name conns ↦ cell_leaves s lib at cell (at.scope.prefix ++ name)
  | item.Prim k name outs ins ↦ elim name [ None ↦ [] | Some n ↦ leaf_if_any (at.scope.prefix ++ n) None (last_part (parts_of s lib at)) ]
  | item.Copy to from ↦ []
]

-- the leaves in the order in which flattening meets them
abbrev pub leaves : Source → Library → Flat → List Leaf
leaves s lib flat = flat_map (leaves_of s lib) flat.items

-- the pins that read with the input pin at a place of a part: that place of each of its gates, of its register, or of the gate that a clock
-- gate becomes, which drives the net of the clock gate's number
abbrev pub loads : (ℕ → ℕ) → ℕ → ℕ → Part → ℕ → List PinRef
loads number sources reg (part.Comb buffer ins gates) place = map (λ (g : Gate). GateIn (number g.out - sources) place) gates
loads number sources reg (part.Flop clock r) place = RegIn reg place ∷ []
loads number sources reg (part.Gate clock enables out) place = GateIn (number out - sources) place ∷ []

-- the input pins, from a place on
abbrev pub input_roles : (ℕ → ℕ) → ℕ → ℕ → Part → ℕ → List (List ℕ) → List PinName
input_roles number sources reg p place [] = []
input_roles number sources reg p place (pin ∷ pins) =
    (record { name = pin; role = role.Load (loads number sources reg p place) }) ∷ input_roles number sources reg p (place + 1) pins

-- a clock pin
abbrev pub clock_role : List ℕ → PinName
clock_role pin = record { name = pin; role = role.Clock }

-- an output pin, with the number of the net that it drives
abbrev pub output_role : (ℕ → ℕ) → List ℕ × ℕ → PinName
output_role number out = record { name = out.0; role = role.Drive (number out.1) }

-- the pins of a cell: all of a cell of the clock tree are clock pins
abbrev pub pin_names : (ℕ → ℕ) → ℕ → List Bool → ℕ → Part → Cell → List PinName
pin_names number sources tree reg p c =
    if is_on_tree tree p then map clock_role (c.inputs ++ out_pins c.kind)
    else (input_roles number sources reg p 0 c.inputs ++ map clock_role (tree_pins c.kind)
    ++ map (output_role number) (zip (out_pins c.kind) (part_drives p)))

-- the pins of a leaf: a primitive has none
abbrev pub pins_if_any : (ℕ → ℕ) → ℕ → List Bool → ℕ → Part → Option Cell → List PinName
pins_if_any number sources tree reg p None = []
pins_if_any number sources tree reg p (Some c) = pin_names number sources tree reg p c

-- the register that a part is, of so many before it
abbrev pub reg_of : ℕ → Part → Option ℕ
reg_of before (part.Comb buffer ins gates) = None
reg_of before (part.Flop clock reg) = Some before
reg_of before (part.Gate clock enables out) = None

-- a leaf by its name, with its register, the nets that it drives, and its pins; one of the clock tree drives none
abbrev pub cell_name : (ℕ → ℕ) → ℕ → List Bool → ℕ → Leaf → CellName
cell_name number sources tree before leaf = record {
  name = leaf.name;
  reg = reg_of before leaf.part;
  outs = if is_on_tree tree leaf.part then [] else map number (part_outs leaf.part);
  pins = pins_if_any number sources tree before leaf.part leaf.cell;
}

-- the cells in the order in which flattening meets them; `before` registers come before these
unfoldable pub cell_names : (ℕ → ℕ) → ℕ → List Bool → ℕ → List Leaf → List CellName
cell_names number sources tree before [] = []
cell_names number sources tree before (l ∷ ls) = cell_name number sources tree before l ∷ cell_names number sources tree (before + length (part_regs l.part)) ls

-- each full name of a net of the design, and no other, stands there once with the net's number, in the order in which it first comes
pub record AreNetNames (flat : Flat) (drivers : List ℕ) (number : ℕ → ℕ) (names : List NetName) : Type 0 where
  pub all : (name : List ℕ) (net : ℕ) → Contains (full_names flat) (name, net) → Contains drivers net
      → Contains names (record { name = name; net = number net })
  pub only : (x : NetName) → Contains names x → (net : ℕ) × Contains (full_names flat) (x.name, net) × Contains drivers net × (number net ≡ x.net)
  pub once : (i j : ℕ) (x y : NetName) → slice_get names i ≡ Some x → slice_get names j ≡ Some y → x.name ≡ y.name → i ≡ j
  pub order : map (λ (n : NetName). n.name) names ≡ each_once
      (map (λ (p : List ℕ × ℕ). p.0) (filter (λ (p : List ℕ × ℕ). list_any (nat_eq p.1) drivers) (full_names flat)))
