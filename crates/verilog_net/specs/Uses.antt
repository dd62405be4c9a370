-- The nets of a module that have a number: those that stand in a port or an item. What is declared and stands in neither
-- is driven by nothing and read by nothing.
use Rattle.std.specs.Prelude.{ℕ, Bool, List, [], ◌∷◌, ◌++◌, length, map, filter, flat_map, nat_eq, Option, Some, None, slice_index_or}
use Rattle.std.specs.List.{list_any, position_or_len, range_with_len}
use Rattle.netlist_types.specs.declared.sources.Wire.{Wire}
use Rattle.netlist_types.specs.declared.sources.Wire.TheVariants as wire
use Rattle.netlist_types.specs.declared.sources.Conn.{Conn}
use Rattle.netlist_types.specs.declared.sources.Item.{Item}
use Rattle.netlist_types.specs.declared.sources.Item.TheVariants as item
use Rattle.netlist_types.specs.declared.sources.Port.{Port}
use Rattle.netlist_types.specs.declared.sources.Module.{Module}

-- the net that a wire is, if it is no constant
abbrev pub wire_nets : Wire → List ℕ
wire_nets (wire.Const b) = []
wire_nets (wire.Net n) = n ∷ []

-- the nets that wires are
abbrev pub nets_of_wires : List Wire → List ℕ
nets_of_wires wires = flat_map wire_nets wires

-- the nets that a pin is connected to
abbrev pub conn_nets : Conn → List ℕ
conn_nets c = elim c.wires [ None ↦ [] | Some wires ↦ nets_of_wires wires ]

-- the nets that stand in an item
abbrev pub item_nets : Item → List ℕ
item_nets (item.Inst cell name conns) = flat_map conn_nets conns
item_nets (item.Prim k name outs ins) = outs ++ nets_of_wires ins
item_nets (item.Copy to from) = to ∷ wire_nets from

abbrev pub port_nets : Port → List ℕ
port_nets p = p.bits

-- those that stand in ports or items, as often as they do
abbrev pub standing_nets : List Port → List Item → List ℕ
standing_nets ports items = flat_map port_nets ports ++ flat_map item_nets items

-- the net is among these
abbrev pub is_in : List ℕ → ℕ → Bool
is_in nets n = list_any (nat_eq n) nets

-- which of so many nets are among these, in their order
abbrev pub those_in : List ℕ → ℕ → List ℕ
those_in nets count = filter (is_in nets) (range_with_len 0 count)

-- the number of a net: its place among those that have one
abbrev pub number_in : List ℕ → ℕ → ℕ
number_in used n = position_or_len (nat_eq n) used

-- wires, connections, items and ports by these numbers
abbrev pub numbered_wire : List ℕ → Wire → Wire
numbered_wire used (wire.Const b) = wire.Const b
numbered_wire used (wire.Net n) = wire.Net (number_in used n)

abbrev pub numbered_wires : List ℕ → List Wire → List Wire
numbered_wires used wires = map (numbered_wire used) wires

abbrev pub numbered_if_any : List ℕ → Option (List Wire) → Option (List Wire)
numbered_if_any used None = None
numbered_if_any used (Some wires) = Some (numbered_wires used wires)

abbrev pub numbered_conn : List ℕ → Conn → Conn
numbered_conn used c = record { pin = c.pin; wires = numbered_if_any used c.wires }

abbrev pub numbered_item : List ℕ → Item → Item
numbered_item used (item.Inst cell name conns) = item.Inst cell name (map (numbered_conn used) conns)
numbered_item used (item.Prim k name outs ins) = item.Prim k name (map (number_in used) outs) (numbered_wires used ins)
numbered_item used (item.Copy to from) = item.Copy (number_in used to) (numbered_wire used from)

abbrev pub numbered_port : List ℕ → Port → Port
numbered_port used p = record { name = p.name; dir = p.dir; bits = map (number_in used) p.bits; bus = p.bus }

-- the nets of a module that have a number, in their order
abbrev pub used_nets : Module → List ℕ
used_nets m = those_in (standing_nets m.ports m.items) (length m.nets)

-- the module with these nets alone, numbered anew
unfoldable pub with_used_nets : Module → Module
with_used_nets m = record {
  name = m.name;
  ports = map (numbered_port (used_nets m)) m.ports;
  nets = map (λ n. slice_index_or m.nets n []) (used_nets m);
  items = map (numbered_item (used_nets m)) m.items;
}
