-- References of each kind, and what is known of the pins of instances that are cut out, computed.
use Rattle.std.proofs.Common.{◌≡◌, ℕ, true, false, List, [], ◌∷◌, Some, None, refl}
use Rattle.std.specs.Prelude.{codes, Option}
use Rattle.glob.specs.Match.{matches_whole, star}
use Rattle.netlist_types.specs.declared.sources.Module.{Module}
use Rattle.netlist_types.specs.declared.sources.Item.{Item}
use Rattle.netlist_types.specs.declared.sources.Item.TheVariants as item
use Rattle.netlist_types.specs.declared.sources.Conn.{Conn}
use Rattle.netlist_types.specs.declared.sources.Wire.{Wire}
use Rattle.netlist_types.specs.declared.sources.Wire.TheVariants as wire
use Rattle.netlist_types.specs.declared.sources.Dir.TheVariants as dir
use Rattle.netlist_types.specs.Lawful.{module_of}
use Rattle.cell_types.specs.declared.libraries.Cell.{Cell}
use Rattle.cell_types.specs.declared.libraries.CellKind.TheVariants as kind
use Rattle.cell_types.specs.declared.libraries.Keeps.{Keeps}
use Rattle.cell_types.specs.declared.libraries.Keeps.TheVariants as keeps
use Rattle.link_defs.specs.declared.cuts.CutFault.TheVariants as cut
use Rattle.link_defs.specs.declared.cuts.CutItem.{CutItem}
use Rattle.link_defs.specs.declared.cuts.CutPin.{CutPin}
use Rattle.link_defs.specs.declared.cuts.Way.{Way}
use Rattle.link_defs.specs.declared.cuts.Way.TheVariants as way
use Rattle.link_defs.specs.Hierarchy.{cell_of, wires_of}
use Rattle.cut_source.specs.Cuttable.{Plan, is_cut_reference, module_left}
use Rattle.cut_source.specs.Items.{captures_or_none, items_cut}
use Rattle.cut_source.specs.Pins.{way_of, cell_pins, cell_fault, stub_pins, stub_fault}

-- a cell that can't be modelled, with the bus A, the input CLK, the bus Q and the power pin VDD
abbrev other : List ℕ → Keeps → Cell
other name k = record {
  name = name;
  inputs = codes "A" ∷ codes "CLK" ∷ [];
  power = codes "VDD" ∷ [];
  kind = kind.Other (record { outs = codes "Q" ∷ []; keeps = k });
}

-- module stub (input [1:0] A, output Q); endmodule
abbrev stub : Module
stub = record {
  name = codes "stub";
  ports = (record { name = codes "A"; dir = dir.Input; bits = 0 ∷ 1 ∷ []; bus = true })
      ∷ (record { name = codes "Q"; dir = dir.Output; bits = 2 ∷ []; bus = false }) ∷ [];
  nets = codes "A[1]" ∷ codes "A[0]" ∷ codes "Q" ∷ [];
  items = [];
}

-- module body; assign n1 = n0; endmodule
abbrev body : Module
body = record { name = codes "body"; ports = []; nets = codes "n0" ∷ codes "n1" ∷ []; items = item.Copy 1 (wire.Net 0) ∷ [] }

-- such a source and library, where every reference is wanted
abbrev every : Plan
every = record {
  source = record { modules = stub ∷ body ∷ [] };
  library = record {
    cells = (record { name = codes "AND2"; inputs = []; power = []; kind = kind.Comb [] })
        ∷ other (codes "LAT") keeps.Bits ∷ other (codes "RAM") keeps.Memory ∷ other (codes "PAD") keeps.Nothing ∷ [];
  };
  free = codes "*" ∷ [];
}

-- a cell that is modelled isn't cut out, though the pattern matches
modelled_stays : is_cut_reference every (codes "AND2") ≡ false
unfolding module_of cell_of matches_whole star
modelled_stays = refl

-- nor is one that keeps nothing, nor a module with items
open_stays : is_cut_reference every (codes "PAD") ≡ false
unfolding module_of cell_of matches_whole star
open_stays = refl

body_stays : is_cut_reference every (codes "body") ≡ false
unfolding module_of cell_of matches_whole star
body_stays = refl

-- one that keeps something is, and a module without items, and what is nothing that is known
latch_goes : is_cut_reference every (codes "LAT") ≡ true
unfolding module_of cell_of matches_whole star
latch_goes = refl

stub_goes : is_cut_reference every (codes "stub") ≡ true
unfolding module_of cell_of matches_whole star
stub_goes = refl

unknown_goes : is_cut_reference every (codes "FILL") ≡ true
unfolding module_of cell_of matches_whole star
unknown_goes = refl

-- a pattern that doesn't match cuts nothing out
other_stays : is_cut_reference (record { source = every.source; library = every.library; free = codes "R?" ∷ [] }) (codes "LAT") ≡ false
unfolding module_of cell_of matches_whole star
other_stays = refl

-- a latch doesn't capture on the clock; a memory does, and what is of no cell
latch_waits : captures_or_none (Some (other (codes "LAT") keeps.Bits)) ≡ false
latch_waits = refl

memory_captures : captures_or_none (Some (other (codes "RAM") keeps.Memory)) ≡ true
memory_captures = refl

unknown_captures : captures_or_none None ≡ true
unknown_captures = refl

abbrev ram : Option Cell
ram = Some (other (codes "RAM") keeps.Memory)

-- bits of a bus go its way; a power pin has none, and a pin that isn't there may go either
bit_in : way_of ram (codes "A[1]") ≡ Some way.In
bit_in = refl

bit_out : way_of ram (codes "Q[0]") ≡ Some way.Out
bit_out = refl

pin_in : way_of ram (codes "CLK") ≡ Some way.In
pin_in = refl

power : way_of ram (codes "VDD") ≡ None
power = refl

absent : way_of ram (codes "B[1]") ≡ Some way.Either
absent = refl

abbrev conn : List ℕ → List Wire → Conn
conn pin wires = record { pin = pin; wires = Some wires }

abbrev pin : List ℕ → Way → ℕ → CutPin
pin name w net = record { name = name; way = w; net = net }

-- RAM m (.A({n4, 1'b1}), .CLK(n3), .VDD(n9), .Q(n7), .T()); a constant at an input gives no pin
abbrev conns : List Conn
conns = conn (codes "A[1]") (wire.Net 4 ∷ []) ∷ conn (codes "A[0]") (wire.Const true ∷ []) ∷ conn (codes "CLK") (wire.Net 3 ∷ [])
    ∷ conn (codes "VDD") (wire.Net 9 ∷ []) ∷ conn (codes "Q") (wire.Net 7 ∷ []) ∷ (record { pin = codes "T"; wires = None }) ∷ []

pins_of_memory : cell_pins ram conns ≡ pin (codes "A[1]") way.In 4 ∷ pin (codes "CLK") way.In 3 ∷ pin (codes "Q") way.Out 7 ∷ []
pins_of_memory = refl

pins_of_unknown : cell_pins None conns
    ≡ pin (codes "A[1]") way.Either 4 ∷ pin (codes "CLK") way.Either 3 ∷ pin (codes "VDD") way.Either 9 ∷ pin (codes "Q") way.Either 7 ∷ []
pins_of_unknown = refl

no_fault : cell_fault ram conns ≡ None
no_fault = refl

-- a constant at an output
tied_fault : cell_fault ram (conn (codes "Q[1]") (wire.Const false ∷ []) ∷ []) ≡ Some (cut.Tied (codes "Q[1]"))
tied_fault = refl

-- stub u (.Q(n7), .A({n4, 1'b0})): by the ports, the most significant bit first
pins_of_stub : stub_pins stub (conn (codes "Q") (wire.Net 7 ∷ []) ∷ conn (codes "A") (wire.Net 4 ∷ wire.Const false ∷ []) ∷ [])
    ≡ pin (codes "A[1]") way.In 4 ∷ pin (codes "Q") way.Out 7 ∷ []
unfolding wires_of
pins_of_stub = refl

-- a connection to no port comes before a constant at an output port
stray_fault : stub_fault stub (conn (codes "Q") (wire.Const true ∷ []) ∷ conn (codes "B") (wire.Net 7 ∷ []) ∷ []) ≡ Some (cut.Stray (codes "B"))
unfolding wires_of
stray_fault = refl

tied_port_fault : stub_fault stub (conn (codes "Q") (wire.Const true ∷ []) ∷ []) ≡ Some (cut.Tied (codes "Q"))
unfolding wires_of
tied_port_fault = refl

-- AND2 g (.A(n0)); LAT l (.A(n0), .Q(n1));
abbrev gate : Item
gate = item.Inst (codes "AND2") (codes "g") (conn (codes "A") (wire.Net 0 ∷ []) ∷ [])

abbrev latch : Item
latch = item.Inst (codes "LAT") (codes "l") (conn (codes "A") (wire.Net 0 ∷ []) ∷ conn (codes "Q") (wire.Net 1 ∷ []) ∷ [])

abbrev host : List Item → Module
host items = record { name = codes "host"; ports = []; nets = codes "n0" ∷ codes "n1" ∷ []; items = items }

-- of these the gate stays, and the latch is cut out
gate_left : module_left every (host (latch ∷ gate ∷ [])) ≡ host (gate ∷ [])
unfolding module_of cell_of matches_whole star
gate_left = refl

abbrev latch_item : CutItem
latch_item = record {
  «module» = codes "host";
  cell = codes "LAT";
  name = codes "l";
  clocked = false;
  pins = pin (codes "A") way.In 0 ∷ pin (codes "Q") way.Out 1 ∷ [];
  fault = None;
}

latch_cut : items_cut every (host (latch ∷ gate ∷ [])) ≡ latch_item ∷ []
unfolding module_of cell_of matches_whole star
latch_cut = refl
