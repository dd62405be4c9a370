-- Leaves by the places of their cells and parts, and names by the places of a design.
use Rattle.std.specs.Prelude.{◌≡◌, ℕ, ◌<◌, false, List, [], ◌++◌, length, map, flat_map, zip, All, Option, Some, None, slice_get, slice_index_or, count_by}
use Rattle.net_model.specs.declared.netlist.Design.{Design}
use Rattle.cell_types.specs.declared.libraries.Library.{Library}
use Rattle.cell_types.specs.declared.libraries.Cell.{Cell}
use Rattle.link_defs.specs.declared.circuits.Part.{Part}
use Rattle.link_defs.specs.declared.circuits.Part.TheVariants as part
use Rattle.linked_types.specs.declared.names.CellName.{CellName}
use Rattle.linked_types.specs.declared.names.PinName.{PinName}
use Rattle.linked_types.specs.declared.names.PinRole.TheVariants as role
use Rattle.link_defs.specs.CellNames.{Leaf, input_roles, clock_role, tree_pins, out_pins, output_role}
use Rattle.link_defs.specs.Circuits.{part_drives}
use Rattle.link_defs.specs.GatedDesigns.{Flop, part_flop}
use Rattle.linked_types.specs.Usable.{IsCellOf, is_reg}
use Rattle.link_items.specs.declared.made.LeafPlace.{LeafPlace}

-- the cell at a place of a library
abbrev pub cell_at : Library → Option ℕ → Option Cell
cell_at lib None = None
cell_at lib (Some place) = slice_get lib.cells place

-- a leaf with this part
abbrev pub leaf_of : Library → LeafPlace → Part → Leaf
leaf_of lib x p = record { name = x.name; cell = cell_at lib x.cell; part = p }

-- a leaf by the place of its part
abbrev pub leaf_at : Library → List Part → LeafPlace → Leaf
leaf_at lib parts x = leaf_of lib x (slice_index_or parts x.part (part.Comb false [] []))

-- an output pin with the number of its net
abbrev pub drive_role : List ℕ × ℕ → PinName
drive_role out = record { name = out.0; role = role.Drive out.1 }

-- the pins of a cell that is none of the clock tree's
abbrev pub data_roles : (ℕ → ℕ) → ℕ → ℕ → Part → Cell → List PinName
data_roles number sources reg p c =
    input_roles number sources reg p 0 c.inputs ++ map clock_role (tree_pins c.kind) ++ map (output_role number) (zip (out_pins c.kind) (part_drives p))

-- how many input pins a part reads
abbrev pub part_pins : Part → ℕ
part_pins (part.Comb buffer ins gates) = length ins
part_pins (part.Flop clock reg) = length reg.ins
part_pins (part.Gate clock enables out) = length enables

-- the part of a leaf has the input pins of its cell, and no others
pub record IsShaped (l : Leaf) : Type 0 where
  pub pins : (c : Cell) → l.cell ≡ Some c → part_pins l.part ≡ length c.inputs

-- the register of a leaf, if it is one, with the net of its clock pin
abbrev pub leaf_flop : Leaf → List Flop
leaf_flop l = part_flop l.part

-- leaves are the registers of parts, in their order
pub record AreLeavesOf (parts : List Part) (ls : List Leaf) : Type 0 where
  pub flops : flat_map part_flop parts ≡ flat_map leaf_flop ls
  pub shaped : All IsShaped ls

-- every place of the cells is one of the design, and each register is that of one cell
pub record ArePlacesOf (d : Design) (list : List CellName) : Type 0 where
  pub cells : All (IsCellOf d) list
  pub each_reg : (r : ℕ) → r < length d.regs → count_by (is_reg r) list ≡ 1
