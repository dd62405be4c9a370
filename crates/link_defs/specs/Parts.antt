-- What the items of a flat netlist read and drive.
use Rattle.std.specs.Prelude.{ℕ, zero, suc, ◌+◌, ◌-◌, ◌==◌, Bool, true, false, ◌&&◌, if◌then◌else◌, List, [], ◌∷◌, ◌++◌, length, map, flat_map}
use Rattle.std.specs.Prelude.{Some, None, slice_index}
use Rattle.std.specs.List.{list_all}
use Rattle.net_model.specs.Form.{Form, ZeroForm, OneForm, PinForm, NotForm, AndForm, OrForm, XorForm, value, xor}
use Rattle.net_model.specs.declared.netlist.Gate.{Gate}
use Rattle.net_model.specs.declared.netlist.Reg.{Reg}
use Rattle.net_model.specs.declared.netlist.RegOut.{RegOut}
use Rattle.netlist_types.specs.declared.sources.Source.{Source}
use Rattle.netlist_types.specs.declared.sources.Port.{Port}
use Rattle.netlist_types.specs.declared.sources.Item.{Item}
use Rattle.netlist_types.specs.declared.sources.Item.TheVariants as item
use Rattle.netlist_types.specs.declared.gates.PrimKind.{PrimKind}
use Rattle.netlist_types.specs.declared.gates.PrimKind.TheVariants as prim
use Rattle.netlist_types.specs.declared.sources.Conn.{Conn}
use Rattle.netlist_types.specs.declared.sources.Wire.{Wire}
use Rattle.netlist_types.specs.declared.sources.Wire.TheVariants as wire
use Rattle.cell_types.specs.declared.libraries.Library.{Library}
use Rattle.cell_types.specs.declared.libraries.Cell.{Cell}
use Rattle.cell_types.specs.declared.libraries.CellKind.TheVariants as kind
use Rattle.cell_types.specs.declared.libraries.CombOut.{CombOut}
use Rattle.cell_types.specs.declared.libraries.Flop.{Flop}
use Rattle.cell_types.specs.declared.libraries.FlopOut.{FlopOut}
use Rattle.cell_types.specs.declared.libraries.GateCell.{GateCell}
use Rattle.link_defs.specs.declared.circuits.Part.{Part}
use Rattle.link_defs.specs.declared.circuits.Part.TheVariants as part
use Rattle.link_defs.specs.Hierarchy.{cell_of, wires_of}
use Rattle.netlist_types.specs.Lawful.{module_of}
use Rattle.link_defs.specs.Flatten.{Located}

-- the flat net of a wire; a constant has one of its own
abbrev pub wire_net : List ℕ → ℕ → Wire → ℕ
wire_net nets own (wire.Const b) = own
wire_net nets own (wire.Net n) = slice_index nets n

-- the flat nets of wires, the constants' own from a first one on
abbrev pub wire_nets : List ℕ → ℕ → List Wire → List ℕ
wire_nets nets own [] = []
wire_nets nets own (w ∷ ws) = wire_net nets own w ∷ wire_nets nets (own + 1) ws

-- a constant: a gate that reads nothing
abbrev pub constant : Bool → ℕ → Part
constant bit net = part.Comb false [] ((record { func = if bit then OneForm else ZeroForm; ins = []; out = net }) ∷ [])

-- the constants among wires, each on its own net
abbrev pub ties : ℕ → List Wire → List Part
ties own [] = []
ties own (wire.Const b ∷ ws) = constant b own ∷ ties (own + 1) ws
ties own (wire.Net n ∷ ws) = ties (own + 1) ws

-- the net of a pin: that of its one wire, and its own where it is open
abbrev pub pin_net : List ℕ → ℕ → List Wire → ℕ
pin_net nets own [] = own
pin_net nets own (w ∷ ws) = wire_net nets own w

-- those of the input pins of a cell, from their own on
abbrev pub pin_nets : List ℕ → List Conn → ℕ → List (List ℕ) → List ℕ
pin_nets nets conns own [] = []
pin_nets nets conns own (pin ∷ pins) = pin_net nets own (wires_of conns pin) ∷ pin_nets nets conns (own + 1) pins

-- the constants that input pins are connected to
abbrev pub pin_ties : List Conn → ℕ → List (List ℕ) → List Part
pin_ties conns own [] = []
pin_ties conns own (pin ∷ pins) = ties own (wires_of conns pin) ++ pin_ties conns (own + 1) pins

-- the constants that the bits of a port are connected to, on the instance's own nets of these bits
abbrev pub bit_ties : ℕ → List ℕ → List Wire → List Part
bit_ties first [] wires = []
bit_ties first (bit ∷ bits) [] = []
bit_ties first (bit ∷ bits) (w ∷ wires) = ties (first + bit) (w ∷ []) ++ bit_ties first bits wires

-- the first place, and with it each of so many further ones
abbrev pub folded : (Form → Form → Form) → ℕ → Form
folded op zero = PinForm 0
folded op (suc n) = op (folded op n) (PinForm (n + 1))

-- the function of a primitive of so many inputs (IEEE 1364, gate primitives)
abbrev pub prim_form : PrimKind → ℕ → Form
prim_form prim.And inputs = folded AndForm (inputs - 1)
prim_form prim.Nand inputs = NotForm (folded AndForm (inputs - 1))
prim_form prim.Or inputs = folded OrForm (inputs - 1)
prim_form prim.Nor inputs = NotForm (folded OrForm (inputs - 1))
prim_form prim.Xor inputs = folded XorForm (inputs - 1)
prim_form prim.Xnor inputs = NotForm (folded XorForm (inputs - 1))
prim_form prim.Buf inputs = PinForm 0
prim_form prim.Not inputs = NotForm (PinForm 0)

-- a buffer or an inverter
abbrev pub is_buffer_prim : PrimKind → Bool
is_buffer_prim prim.And = false
is_buffer_prim prim.Nand = false
is_buffer_prim prim.Or = false
is_buffer_prim prim.Nor = false
is_buffer_prim prim.Xor = false
is_buffer_prim prim.Xnor = false
is_buffer_prim prim.Buf = true
is_buffer_prim prim.Not = true

-- a function of one place that has its value or the complement
abbrev pub inverts : Form → Bool
inverts f = value f (λ _. false)

-- a function of one place that tells its two values apart
abbrev pub is_buffer_form : Form → Bool
is_buffer_form f = xor (value f (λ _. true)) (inverts f)

-- a cell with one input pin, each of whose outputs has its value or the complement
abbrev pub is_buffer_cell : List (List ℕ) → List CombOut → Bool
is_buffer_cell inputs outs = (length inputs == 1) && list_all (λ (o : CombOut). is_buffer_form o.func) outs

-- a gate for each output of a combinational cell
abbrev pub comb_gates : List ℕ → List Conn → List ℕ → ℕ → List CombOut → List Gate
comb_gates nets conns ins own [] = []
comb_gates nets conns ins own (o ∷ os) =
    (record { func = o.func; ins = ins; out = pin_net nets own (wires_of conns o.name) }) ∷ comb_gates nets conns ins (own + 1) os

-- the outputs of a register, each with its net
abbrev pub reg_outs : List ℕ → List Conn → ℕ → List FlopOut → List RegOut
reg_outs nets conns own [] = []
reg_outs nets conns own (o ∷ os) =
    (record { net = pin_net nets own (wires_of conns o.name); inverted = o.inverted }) ∷ reg_outs nets conns (own + 1) os

-- the first of the flat nets for the outputs of a cell; the clock pin of a flop or a clock gate comes after them
abbrev pub outs_from : ℕ → Cell → ℕ
outs_from first c = first + length c.inputs

-- the register that a flop is
abbrev pub flop_reg : List ℕ → List Conn → ℕ → Cell → Flop → Reg
flop_reg nets conns first c f = record {
  next = f.next;
  clear = f.clear;
  preset = f.preset;
  both = f.both;
  ins = pin_nets nets conns first c.inputs;
  outs = reg_outs nets conns (outs_from first c) f.outs;
}

-- the net of its clock pin
abbrev pub clock_net : List ℕ → List Conn → ℕ → Cell → Flop → ℕ
clock_net nets conns first c f = pin_net nets (outs_from first c + length f.outs) (wires_of conns f.clock)

-- that of a clock gate's
abbrev pub gate_clock : List ℕ → List Conn → ℕ → Cell → GateCell → ℕ
gate_clock nets conns first c g = pin_net nets (outs_from first c + 1) (wires_of conns g.clock)

-- an instance of a cell
abbrev pub cell_part : List ℕ → List Conn → ℕ → Cell → List Part
cell_part nets conns first c = elim c.kind [
  | kind.Comb outs ↦
      let ins = pin_nets nets conns first c.inputs in
      part.Comb (is_buffer_cell c.inputs outs) ins (comb_gates nets conns ins (outs_from first c) outs) ∷ []
  | kind.Flop f ↦ part.Flop (clock_net nets conns first c f) (flop_reg nets conns first c f) ∷ []
  | kind.Gate g ↦
      part.Gate (gate_clock nets conns first c g) (pin_nets nets conns first c.inputs) (pin_net nets (outs_from first c) (wires_of conns g.out)) ∷ []
  | kind.Other o ↦ []
]

-- the constants that its input pins are connected to, and the clock pin of a flop or a clock gate
abbrev pub cell_ties : List Conn → ℕ → Cell → List Part
cell_ties conns first c = elim c.kind [
  | kind.Comb outs ↦ pin_ties conns first c.inputs
  | kind.Flop f ↦ pin_ties conns first c.inputs ++ ties (outs_from first c + length f.outs) (wires_of conns f.clock)
  | kind.Gate g ↦ pin_ties conns first c.inputs ++ ties (outs_from first c + 1) (wires_of conns g.clock)
  | kind.Other o ↦ []
]

-- an instance: of a module, whose ports may be tied to constants, or of a cell
unfoldable pub inst_parts : Source → Library → List ℕ → List Conn → ℕ → List ℕ → List Part
inst_parts s lib nets conns first cell = elim (module_of s cell) [
  | Some m ↦ flat_map (λ (p : Port). bit_ties first p.bits (wires_of conns p.name)) m.ports
  | None ↦ elim (cell_of lib cell) [ None ↦ [] | Some c ↦ cell_ties conns first c ++ cell_part nets conns first c ]
]

-- a gate of a primitive
abbrev pub prim_gate : PrimKind → List ℕ → ℕ → Gate
prim_gate k ins out = record { func = prim_form k (length ins); ins = ins; out = out }

-- the parts of an item, its constants first
abbrev pub item_parts : Source → Library → List ℕ → ℕ → Item → List Part
item_parts s lib nets first (item.Inst cell name conns) = inst_parts s lib nets conns first cell
item_parts s lib nets first (item.Prim k name outs ins) =
    let pins = wire_nets nets first ins in
    ties first ins ++ part.Comb (is_buffer_prim k) pins (map (λ (out : ℕ). prim_gate k pins (slice_index nets out)) outs) ∷ []
item_parts s lib nets first (item.Copy to from) =
    let pins = wire_net nets first from ∷ [] in
    ties first (from ∷ []) ++ part.Comb true pins (prim_gate prim.Buf pins (slice_index nets to) ∷ []) ∷ []

-- the parts of an item where it stands
abbrev pub parts_of : Source → Library → Located → List Part
parts_of s lib at = item_parts s lib at.scope.nets at.first at.item
