-- What each kind of item adds.
use Rattle.std.specs.Prelude.{◌≡◌, ℕ, ◌+◌, ◌-◌, ◌≤◌, true, List, [], ◌∷◌, ◌++◌, length, flat_map, Option, Some, None}
use Rattle.netlist_types.specs.declared.sources.Module.{Module}
use Rattle.netlist_types.specs.declared.sources.Port.{Port}
use Rattle.netlist_types.specs.declared.sources.Item.{Item}
use Rattle.netlist_types.specs.declared.sources.Item.TheVariants as item
use Rattle.netlist_types.specs.declared.sources.Conn.{Conn}
use Rattle.netlist_types.specs.declared.sources.Wire.{Wire}
use Rattle.netlist_types.specs.declared.gates.PrimKind.{PrimKind}
use Rattle.cell_types.specs.declared.libraries.Cell.{Cell}
use Rattle.cell_types.specs.declared.libraries.CellKind.{CellKind}
use Rattle.cell_types.specs.declared.libraries.CellKind.TheVariants as kind
use Rattle.link_defs.specs.Hierarchy.{is_modelled, wires_of}
use Rattle.link_defs.specs.Flatten.{inner_nets, other_pins}
use Rattle.link_defs.specs.Parts.{bit_ties, cell_ties, cell_part, ties, wire_nets}
use Rattle.link_items.specs.declared.items.Inst.{Inst}
use Rattle.link_items.specs.declared.made.Instance.{Instance}
use Rattle.link_items.specs.declared.made.LeafPlace.{LeafPlace}
use Rattle.link_items.specs.declared.made.Made.{Made}
use Rattle.link_items.specs.declared.prims.Terminals.{Terminals}
use Rattle.link_items.specs.Fine.{IsFineCell, IsFineModule}
use Rattle.link_items.specs.Prims.{prim_part, copy_parts}

-- the item that says this of an instance
abbrev pub inst_item : Inst → Item
inst_item i = item.Inst i.cell.now i.name.now i.conns.now

-- the pins of a cell of this kind beside its inputs
abbrev pub kind_pins : CellKind → ℕ
kind_pins (kind.Comb outs) = length outs
kind_pins (kind.Flop f) = length f.outs + 1
kind_pins (kind.Gate g) = 2
kind_pins (kind.Other o) = 0

-- an instance of a module brings a net for each of its module's, and the constants that its ports are connected to
pub record IsModuleAdded (outer : List ℕ) (conns : List Conn) (m : Module) (old new : Made) (nets : List ℕ) : Type 0 where
  pub count : new.count ≡ old.count + length m.nets
  pub parts : new.parts ≡ old.parts ++ flat_map (λ (p : Port). bit_ties old.count p.bits (wires_of conns p.name)) m.ports
  pub leaves : new.leaves ≡ old.leaves
  pub nets_are : nets ≡ inner_nets outer m conns old.count
  pub fine : IsFineModule conns m

-- an instance of a modelled cell brings a net for each of its pins, and its parts
pub record IsCellAdded (outer : List ℕ) (conns : List Conn) (c : Cell) (old new : Made) : Type 0 where
  pub count : new.count ≡ old.count + (length c.inputs + other_pins c)
  pub parts : new.parts ≡ old.parts ++ (cell_ties conns old.count c ++ cell_part outer conns old.count c)
  pub leaves : new.leaves ≡ old.leaves
  pub modelled : is_modelled c.kind ≡ true
  pub fine : IsFineCell conns c

-- a leaf more, whose part is the last
pub record HasLeaf (name : List ℕ) (cell : Option ℕ) (old new : Made) : Type 0 where
  pub count : new.count ≡ old.count
  pub parts : new.parts ≡ old.parts
  pub leaves : new.leaves ≡ old.leaves ++ (record { name = name; cell = cell; part = length old.parts - 1 }) ∷ []

-- the leaf of a primitive with a name, whose part is the last
abbrev pub prim_leaf : Instance → Option (List ℕ) → ℕ → List LeafPlace
prim_leaf at None parts = []
prim_leaf at (Some name) parts = (record { name = at.prefix ++ name; cell = None; part = parts - 1 }) ∷ []

-- with the leaf of a primitive, if it has a name
pub record HasPrimLeaf (at : Instance) (name : Option (List ℕ)) (old new : Made) : Type 0 where
  pub count : new.count ≡ old.count
  pub parts : new.parts ≡ old.parts
  pub leaves : new.leaves ≡ old.leaves ++ prim_leaf at name (length old.parts)

-- a primitive brings a net for each input, its constants and its gates
pub record IsPrimAdded (at : Instance) (k : PrimKind) (name : Option (List ℕ)) (t : Terminals) (old new : Made) : Type 0 where
  pub count : new.count ≡ old.count + length t.ins.now
  pub parts : new.parts ≡ old.parts ++ (ties old.count t.ins.now ++ prim_part k at.nets (wire_nets at.nets old.count t.ins.now) t.outs.now ∷ [])
  pub leaves : new.leaves ≡ old.leaves ++ prim_leaf at name (length new.parts)
  pub few : length t.ins.now ≤ 6

-- an assigned bit brings one net, and a gate
pub record IsCopyAdded (at : Instance) (to : ℕ) (from : Wire) (old new : Made) : Type 0 where
  pub count : new.count ≡ old.count + 1
  pub parts : new.parts ≡ old.parts ++ copy_parts at.nets old.count to from
  pub leaves : new.leaves ≡ old.leaves
