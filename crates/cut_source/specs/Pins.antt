-- The pins of an instance that is cut, and which way each goes.
use Rattle.std.specs.Prelude.{ℕ, Bool, true, false, ◌&&◌, nat_eq, if◌then◌else◌, List, [], ◌∷◌, length, flat_map}
use Rattle.std.specs.Prelude.{find, drop, zip, Option, Some, None, slice_index_or}
use Rattle.std.specs.List.{list_any, starts_with, ends_with}
use Rattle.texts.specs.Names.{is_among}
use Rattle.netlist_types.specs.declared.sources.Module.{Module}
use Rattle.netlist_types.specs.declared.sources.Port.{Port}
use Rattle.netlist_types.specs.declared.sources.Conn.{Conn}
use Rattle.netlist_types.specs.declared.sources.Dir.{Dir}
use Rattle.netlist_types.specs.declared.sources.Dir.TheVariants as dir
use Rattle.netlist_types.specs.declared.sources.Wire.{Wire}
use Rattle.netlist_types.specs.declared.sources.Wire.TheVariants as wire
use Rattle.cell_types.specs.declared.libraries.Cell.{Cell}
use Rattle.cell_types.specs.declared.libraries.CellKind.{CellKind}
use Rattle.cell_types.specs.declared.libraries.CellKind.TheVariants as kind
use Rattle.link_defs.specs.declared.cuts.CutFault.{CutFault}
use Rattle.link_defs.specs.declared.cuts.CutFault.TheVariants as cut
use Rattle.link_defs.specs.declared.cuts.CutPin.{CutPin}
use Rattle.link_defs.specs.declared.cuts.Way.{Way}
use Rattle.link_defs.specs.declared.cuts.Way.TheVariants as way
use Rattle.link_defs.specs.Hierarchy.{wires_in, wires_of}
use Rattle.link_items.specs.Pins.{is_const, is_tied, is_unknown, port_names}

-- an index in brackets
abbrev pub is_index : List ℕ → Bool
is_index text = starts_with nat_eq text (91 ∷ []) && ends_with nat_eq text (93 ∷ [])

-- the pin is a bit of the bus: its name is that of the bus and an index in brackets
abbrev pub is_bit_of : List ℕ → List ℕ → Bool
is_bit_of pin bus = starts_with nat_eq pin bus && is_index (drop (length bus) pin)

-- the pin is a bit of one of these
abbrev pub has_bit : List (List ℕ) → List ℕ → Bool
has_bit names pin = list_any (is_bit_of pin) names

-- the outputs of a cell that can't be modelled
abbrev pub outs_of : CellKind → List (List ℕ)
outs_of (kind.Comb outs) = []
outs_of (kind.Flop f) = []
outs_of (kind.Gate g) = []
outs_of (kind.Other o) = o.outs

-- the way of a pin among inputs and outputs, some of which are buses: a pin that stands there itself is no bit of a bus
abbrev pub way_among : List (List ℕ) → List (List ℕ) → List ℕ → Way
way_among ins outs pin =
    if is_among pin ins then way.In
    else (if is_among pin outs then way.Out
    else (if has_bit ins pin then way.In else (if has_bit outs pin then way.Out else way.Either)))

-- the way of a pin of this cell; a power pin has none
abbrev pub way_in : Cell → List ℕ → Option Way
way_in c pin = if is_among pin c.power then None else Some (way_among c.inputs (outs_of c.kind) pin)

-- the way of a pin of an instance of this cell, if it is of one
abbrev pub way_of : Option Cell → List ℕ → Option Way
way_of None pin = Some way.Either
way_of (Some c) pin = way_in c pin

-- a wire that is a net gives a pin
abbrev pub wire_pins : List ℕ → Way → Wire → List CutPin
wire_pins name w (wire.Const bit) = []
wire_pins name w (wire.Net n) = (record { name = name; way = w; net = n }) ∷ []

-- the pins of a connection, which has a way unless it is one of power
abbrev pub pins_by : Option Way → Conn → List CutPin
pins_by None c = []
pins_by (Some w) c = flat_map (wire_pins c.pin w) (wires_in (Some c))

abbrev pub conn_pins : Option Cell → Conn → List CutPin
conn_pins cell c = pins_by (way_of cell c.pin) c

-- the pins of an instance that is of no module, in the order of its connections
abbrev pub cell_pins : Option Cell → List Conn → List CutPin
cell_pins cell conns = flat_map (conn_pins cell) conns

-- it is known to drive
abbrev pub is_out : Option Way → Bool
is_out None = false
is_out (Some way.In) = false
is_out (Some way.Out) = true
is_out (Some way.Either) = false

-- a constant is connected to an output
abbrev pub is_tied_out : Option Cell → Conn → Bool
is_tied_out cell c = is_out (way_of cell c.pin) && list_any is_const (wires_in (Some c))

-- the fault of a connection
abbrev pub tied : Option Conn → Option CutFault
tied None = None
tied (Some c) = Some (cut.Tied c.pin)

abbrev pub cell_fault : Option Cell → List Conn → Option CutFault
cell_fault cell conns = tied (find (is_tied_out cell) conns)

-- the way of a port
abbrev pub port_way : Dir → Way
port_way dir.Input = way.In
port_way dir.Output = way.Out
port_way dir.Inout = way.Either

-- a bit of a port with the wire that is connected to it, by its name in the module
abbrev pub bit_pins : Module → Way → ℕ × Wire → List CutPin
bit_pins m w (bit, x) = wire_pins (slice_index_or m.nets bit []) w x

-- the bits of a port that are connected to a net
abbrev pub port_pins : Module → List Conn → Port → List CutPin
port_pins m conns p = flat_map (bit_pins m (port_way p.dir)) (zip p.bits (wires_of conns p.name))

-- the pins of an instance of a module, in port order, the most significant bit first
abbrev pub stub_pins : Module → List Conn → List CutPin
stub_pins m conns = flat_map (port_pins m conns) m.ports

-- a constant is connected to the output port
abbrev pub is_tied_port : List Conn → Port → Bool
is_tied_port conns p = is_out (Some (port_way p.dir)) && is_tied conns p.name

-- the fault of a port
abbrev pub tied_port : Option Port → Option CutFault
tied_port None = None
tied_port (Some p) = Some (cut.Tied p.name)

-- the connection is to no port; else the fault is that of the ports
abbrev pub stray_or : Option Conn → Option CutFault → Option CutFault
stray_or None fault = fault
stray_or (Some c) fault = Some (cut.Stray c.pin)

abbrev pub stub_fault : Module → List Conn → Option CutFault
stub_fault m conns = stray_or (find (is_unknown (port_names m)) conns) (tied_port (find (is_tied_port conns) m.ports))
