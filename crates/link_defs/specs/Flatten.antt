-- The instances of a source, depth first, and the net of each of their names.
--
-- Nets of the flat netlist are numbers. An instance's nets are its own, but for the bits of its connected ports, which
-- are the nets outside.
use Rattle.std.specs.Prelude.{ℕ, zero, suc, ◌+◌, List, [], ◌∷◌, ◌++◌, length, map, fold, flat_map, zip, Option, Some, None, slice_index, slice_set}
use Rattle.netlist_types.specs.declared.sources.Source.{Source}
use Rattle.netlist_types.specs.declared.sources.Module.{Module}
use Rattle.netlist_types.specs.declared.sources.Port.{Port}
use Rattle.netlist_types.specs.declared.sources.Item.{Item}
use Rattle.netlist_types.specs.declared.sources.Item.TheVariants as item
use Rattle.netlist_types.specs.declared.sources.Conn.{Conn}
use Rattle.netlist_types.specs.declared.sources.Wire.{Wire}
use Rattle.netlist_types.specs.declared.sources.Wire.TheVariants as wire
use Rattle.cell_types.specs.declared.libraries.Library.{Library}
use Rattle.cell_types.specs.declared.libraries.Cell.{Cell}
use Rattle.cell_types.specs.declared.libraries.CellKind.TheVariants as kind
use Rattle.link_defs.specs.Hierarchy.{cell_of, wires_of}
use Rattle.netlist_types.specs.Lawful.{module_of}

-- an instance of a module: what its names begin with, the flat net of each of its nets, and in how many module instances what
-- is in it stands, with itself; the top module is none
pub record Scope : Type 0 where
  pub prefix : List ℕ
  pub body : Module
  pub nets : List ℕ
  pub depth : ℕ

-- an item of an instance, and the first of the flat nets that are its own
pub record Located : Type 0 where
  pub scope : Scope
  pub item : Item
  pub first : ℕ

-- how many flat nets there are, the instances of modules, and the items, in the order in which they are met
pub record Flat : Type 0 where
  pub count : ℕ
  pub scopes : List Scope
  pub items : List Located

-- so many numbers from a first one on
abbrev pub numbers : ℕ → ℕ → List ℕ
numbers first zero = []
numbers first (suc n) = first ∷ numbers (first + 1) n

-- a bit of a port that is connected to a net is that net
abbrev pub join_bit : List ℕ → List ℕ → ℕ → Wire → List ℕ
join_bit outer nets bit (wire.Const b) = nets
join_bit outer nets bit (wire.Net n) = slice_set nets bit (slice_index outer n)

-- the bits of a port, each with its wire, if it has one
unfoldable pub join_bits : List ℕ → List ℕ → List ℕ → List Wire → List ℕ
join_bits outer nets [] wires = nets
join_bits outer nets (bit ∷ bits) [] = nets
join_bits outer nets (bit ∷ bits) (w ∷ wires) = join_bits outer (join_bit outer nets bit w) bits wires

-- the flat nets of an instance: those that its ports are connected to, and else its own
unfoldable pub inner_nets : List ℕ → Module → List Conn → ℕ → List ℕ
inner_nets outer m conns first =
    fold (λ nets (p : Port). join_bits outer nets p.bits (wires_of conns p.name)) (numbers first (length m.nets)) m.ports

-- a full name: names of instances and the last name, joined by a slash
abbrev pub with_slash : List ℕ → List ℕ → List ℕ
with_slash prefix name = prefix ++ name ++ 47 ∷ []

-- an instance of a module inside another
abbrev pub inner_scope : Scope → List ℕ → Module → List Conn → ℕ → Scope
inner_scope scope name m conns first =
    record { prefix = with_slash scope.prefix name; body = m; nets = inner_nets scope.nets m conns first; depth = scope.depth + 1 }

-- the pins of a cell that is modelled that are no inputs: outputs, and the clock of a flop or a clock gate
abbrev pub other_pins : Cell → ℕ
other_pins c = elim c.kind [ kind.Comb outs ↦ length outs | kind.Flop f ↦ length f.outs + 1 | kind.Gate g ↦ 2 | kind.Other o ↦ 0 ]

-- how many flat nets an instance brings: one for each net of its module, or for each pin of its cell
unfoldable pub inst_nets : Source → Library → List ℕ → ℕ
inst_nets s lib cell = elim (module_of s cell) [
  | Some m ↦ length m.nets
  | None ↦ elim (cell_of lib cell) [ Some c ↦ length c.inputs + other_pins c | None ↦ 0 ]
]

-- how many an item brings: a primitive one for each input, an assigned bit one; they stand for constants and open pins
abbrev pub own_nets : Source → Library → Item → ℕ
own_nets s lib (item.Inst cell name conns) = inst_nets s lib cell
own_nets s lib (item.Prim kind name outs ins) = length ins
own_nets s lib (item.Copy to from) = 1

-- the instance of a module that an item is, if it is one
abbrev pub instance_of : Source → Scope → Item → ℕ → Option Scope
instance_of s scope (item.Inst cell name conns) first = elim (module_of s cell) [ Some m ↦ Some (inner_scope scope name m conns first) | None ↦ None ]
instance_of s scope (item.Prim kind name outs ins) first = None
instance_of s scope (item.Copy to from) first = None

-- with one more item, and the flat nets that are its own
abbrev pub with_item : Source → Library → Scope → Item → Flat → Flat
with_item s lib scope i flat = record {
  count = flat.count + own_nets s lib i;
  scopes = flat.scopes;
  items = flat.items ++ (record { scope = scope; item = i; first = flat.count }) ∷ [];
}

-- with one more instance
abbrev pub with_scope : Flat → Scope → Flat
with_scope flat scope = record { count = flat.count; scopes = flat.scopes ++ scope ∷ []; items = flat.items }

-- an item, and after it all that stands in it
abbrev pub inside_of : (Flat → Scope → Flat) → Flat → Option Scope → Flat
inside_of inside flat None = flat
inside_of inside flat (Some inner) = inside flat inner

-- with one more item and all that `inside` gives for it
unfoldable pub add_item : (Flat → Scope → Flat) → Source → Library → Scope → Flat → Item → Flat
add_item inside s lib scope flat i = inside_of inside (with_item s lib scope i flat) (instance_of s scope i flat.count)

-- an instance and all that stands in it, to a depth
unfoldable pub add_scope : ℕ → Source → Library → Flat → Scope → Flat
add_scope zero s lib flat scope = flat
add_scope (suc depth) s lib flat scope = fold (add_item (add_scope depth s lib) s lib scope) (with_scope flat scope) scope.body.items

-- the top module: its names stand alone, and its nets are the first numbers
abbrev pub top_scope : Module → Scope
top_scope top = record { prefix = []; body = top; nets = numbers 0 (length top.nets); depth = 0 }

-- the flat netlist below a module: no module stands in itself, so the number of modules bounds the depth
abbrev pub flat_of : Source → Library → Module → Flat
flat_of s lib top = add_scope (length s.modules) s lib (record { count = length top.nets; scopes = []; items = [] }) (top_scope top)

-- the full names of the nets of an instance, each with its flat net
abbrev pub scope_names : Scope → List (List ℕ × ℕ)
scope_names scope = zip (map (λ (name : List ℕ). scope.prefix ++ name) scope.body.nets) scope.nets

-- the full names of all nets
abbrev pub full_names : Flat → List (List ℕ × ℕ)
full_names flat = flat_map scope_names flat.scopes
