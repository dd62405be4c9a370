-- A module with a buffer inside, a register on a buffered clock, an open output, a named primitive, a constant and a
-- tied clock pin, as the definitions link them.
use Rattle.std.proofs.Common.{◌≡◌, ℕ, Bool, true, false, List, [], ◌∷◌, Some, None, refl}
use Rattle.std.specs.Prelude.{codes}
use Rattle.netlist_types.specs.declared.sources.Source.{Source}
use Rattle.netlist_types.specs.declared.sources.Module.{Module}
use Rattle.netlist_types.specs.declared.sources.Port.{Port}
use Rattle.netlist_types.specs.declared.sources.Item.TheVariants as item
use Rattle.netlist_types.specs.declared.gates.PrimKind.TheVariants as prim
use Rattle.netlist_types.specs.declared.sources.Conn.{Conn}
use Rattle.netlist_types.specs.declared.sources.Wire.TheVariants as wire
use Rattle.netlist_types.specs.declared.sources.Dir.{Dir}
use Rattle.netlist_types.specs.declared.sources.Dir.TheVariants as dir
use Rattle.cell_types.specs.declared.libraries.Library.{Library}
use Rattle.cell_types.specs.declared.libraries.Cell.{Cell}
use Rattle.cell_types.specs.declared.libraries.CellKind.TheVariants as kind
use Rattle.net_model.specs.Form.{Form, PinForm, NotForm, AndForm, OneForm}
use Rattle.net_model.specs.declared.netlist.Gate.{Gate}
use Rattle.net_model.specs.declared.netlist.Reg.{Reg}
use Rattle.net_model.specs.declared.claims.PinRef.TheVariants.{GateIn, RegIn}
use Rattle.link_defs.specs.declared.circuits.Part.TheVariants as part
use Rattle.link_defs.specs.declared.circuits.Circuit.{Circuit}
use Rattle.linked_types.specs.declared.names.PinName.{PinName}
use Rattle.linked_types.specs.declared.names.PinRole.TheVariants as role
use Rattle.link_defs.specs.Hierarchy.{cell_of, wires_of, module_needs, tops}
use Rattle.netlist_types.specs.Lawful.{module_of}
use Rattle.link_defs.specs.Flatten.{flat_of, full_names, add_scope, add_item, inst_nets, inner_nets, join_bits}
use Rattle.link_defs.specs.Parts.{inst_parts}
use Rattle.link_defs.specs.Circuits.{circuit_of}
use Rattle.link_defs.specs.Designs.{equations, drivers_by, number_by, moved}
use Rattle.link_defs.specs.CellNames.{leaves, leaves_of, cell_names}

-- a pin on a net, and one that is open
abbrev pub conn : List ℕ → ℕ → Conn
conn pin net = record { pin = pin; wires = Some (wire.Net net ∷ []) }

abbrev pub unconnected : List ℕ → Conn
unconnected pin = record { pin = pin; wires = None }

abbrev pub port : List ℕ → Dir → List ℕ → Bool → Port
port name d bits bus = record { name = name; dir = d; bits = bits; bus = bus }

abbrev pub pin_0 : Form
pin_0 = PinForm 0

abbrev pub pin_1 : Form
pin_1 = PinForm 1

abbrev pub pin_2 : Form
pin_2 = PinForm 2

-- a combinational cell with the output Y
abbrev pub comb : List ℕ → List (List ℕ) → Form → Cell
comb name inputs func = record { name = name; inputs = inputs; power = []; kind = kind.Comb ((record { name = codes "Y"; func = func }) ∷ []) }

-- module m (input a, output y); B g (.A(a), .Y(y)); endmodule
abbrev m : Module
m = record {
  name = codes "m";
  ports = port (codes "a") dir.Input (0 ∷ []) false ∷ port (codes "y") dir.Output (1 ∷ []) false ∷ [];
  nets = codes "a" ∷ codes "y" ∷ [];
  items = item.Inst (codes "B") (codes "g") (conn (codes "A") 0 ∷ conn (codes "Y") 1 ∷ []) ∷ [];
}

-- module t (input k, input [1:0] x, output [1:0] z); wire w, c, s;
-- m u (.a(x[1]), .y(z[0])); not n (w, x[0]); assign c = k; F r (.D(w), .C(c), .Q(z[1])); and (s, w, 1'b1); endmodule
abbrev t : Module
t = record {
  name = codes "t";
  ports =
      port (codes "k") dir.Input (0 ∷ []) false ∷ port (codes "x") dir.Input (1 ∷ 2 ∷ []) true
      ∷ port (codes "z") dir.Output (3 ∷ 4 ∷ []) true ∷ [];
  nets =
      codes "k" ∷ codes "x[1]" ∷ codes "x[0]" ∷ codes "z[1]" ∷ codes "z[0]" ∷ codes "w" ∷ codes "c" ∷ codes "s" ∷ [];
  items =
      item.Inst (codes "m") (codes "u") (conn (codes "a") 1 ∷ conn (codes "y") 4 ∷ [])
      ∷ item.Prim prim.Not (Some (codes "n")) (5 ∷ []) (wire.Net 2 ∷ [])
      ∷ item.Copy 6 (wire.Net 0)
      ∷ item.Inst (codes "F") (codes "r") (conn (codes "D") 5 ∷ conn (codes "C") 6 ∷ conn (codes "Q") 3 ∷ [])
      ∷ item.Prim prim.And None (7 ∷ []) (wire.Net 5 ∷ wire.Const true ∷ [])
      ∷ [];
}

abbrev source : Source
source = record { modules = m ∷ t ∷ [] }

-- F: a flop with D, the clock C, Q and its complement N
abbrev flop : Cell
flop = record {
  name = codes "F";
  inputs = codes "D" ∷ [];
  power = [];
  kind = kind.Flop (record {
    clock = codes "C";
    next = pin_0;
    clear = None;
    preset = None;
    both = false;
    outs = (record { name = codes "Q"; inverted = false }) ∷ (record { name = codes "N"; inverted = true }) ∷ [];
  });
}

-- B: a buffer
abbrev lib : Library
lib = record { cells = comb (codes "B") (codes "A" ∷ []) pin_0 ∷ flop ∷ [] }

top_is : tops source ≡ t ∷ []
top_is = refl

needs_are : module_needs source ≡ (2 ∷ []) ∷ (0 ∷ 2 ∷ []) ∷ []
needs_are = refl

names_are : full_names (flat_of source lib t) ≡ (codes "k", 0) ∷ (codes "x[1]", 1) ∷ (codes "x[0]", 2) ∷ (codes "z[1]", 3)
    ∷ (codes "z[0]", 4) ∷ (codes "w", 5) ∷ (codes "c", 6) ∷ (codes "s", 7) ∷ (codes "u/a", 1) ∷ (codes "u/y", 4) ∷ []
unfolding add_scope add_item inst_nets inner_nets join_bits module_of cell_of wires_of
names_are = refl

abbrev gate_g : Gate
gate_g = record { func = pin_0; ins = 1 ∷ []; out = 4 }

abbrev gate_n : Gate
gate_n = record { func = NotForm pin_0; ins = 2 ∷ []; out = 5 }

abbrev gate_c : Gate
gate_c = record { func = pin_0; ins = 0 ∷ []; out = 6 }

abbrev gate_1 : Gate
gate_1 = record { func = OneForm; ins = []; out = 19 }

abbrev gate_s : Gate
gate_s = record { func = AndForm pin_0 pin_1; ins = 5 ∷ 19 ∷ []; out = 7 }

abbrev reg_r : Reg
reg_r = record {
  next = pin_0;
  clear = None;
  preset = None;
  both = false;
  ins = 5 ∷ [];
  outs = (record { net = 3; inverted = false }) ∷ (record { net = 16; inverted = true }) ∷ [];
}

abbrev circuit : Circuit
circuit = record {
  nets = 20;
  clocks = 0 ∷ [];
  inputs = 1 ∷ 2 ∷ [];
  outputs = 3 ∷ 4 ∷ [];
  parts =
      part.Comb true (1 ∷ []) (gate_g ∷ []) ∷ part.Comb true (2 ∷ []) (gate_n ∷ []) ∷ part.Comb true (0 ∷ []) (gate_c ∷ [])
      ∷ part.Flop 6 reg_r ∷ part.Comb false [] (gate_1 ∷ []) ∷ part.Comb false (5 ∷ 19 ∷ []) (gate_s ∷ []) ∷ [];
}

circuit_is : circuit_of source lib t (Some (codes "k")) ≡ circuit
unfolding circuit_of inst_parts add_scope add_item inst_nets inner_nets join_bits module_of cell_of wires_of
circuit_is = refl

-- the clock tree is nets 0 and 6
abbrev tree : List Bool
tree = true ∷ false ∷ false ∷ false ∷ false ∷ false ∷ true ∷ []

equations_are : equations tree circuit ≡ gate_g ∷ gate_n ∷ gate_1 ∷ gate_s ∷ []
equations_are = refl

drivers_are : drivers_by circuit (equations tree circuit) ≡ 1 ∷ 2 ∷ 3 ∷ 16 ∷ 4 ∷ 5 ∷ 19 ∷ 7 ∷ []
drivers_are = refl

-- the and reads gates 1 and 2 and drives the net 7 as gate 3
last_gate_is : moved (number_by (drivers_by circuit (equations tree circuit))) gate_s
    ≡ (record { func = AndForm pin_0 pin_1; ins = 5 ∷ 6 ∷ []; out = 7 })
last_gate_is = refl

abbrev drives : List ℕ → ℕ → PinName
drives name net = record { name = name; role = role.Drive net }

cells_are : cell_names (number_by (drivers_by circuit (equations tree circuit))) 4 tree 0 (leaves source lib (flat_of source lib t)) ≡
    (record {
      name = codes "u/g";
      reg = None;
      outs = 4 ∷ [];
      pins = (record { name = codes "A"; role = role.Load (GateIn 0 0 ∷ []) }) ∷ drives (codes "Y") 4 ∷ [];
    })
    ∷ (record { name = codes "n"; reg = None; outs = 5 ∷ []; pins = [] })
    ∷ (record {
      name = codes "r";
      reg = Some 0;
      outs = 2 ∷ 3 ∷ [];
      pins =
          (record { name = codes "D"; role = role.Load (RegIn 0 0 ∷ []) }) ∷ (record { name = codes "C"; role = role.Clock })
          ∷ drives (codes "Q") 2 ∷ drives (codes "N") 3 ∷ [];
    })
    ∷ []
unfolding cell_names leaves_of inst_parts add_scope add_item inst_nets inner_nets join_bits module_of cell_of wires_of
cells_are = refl

-- F r (.C(1'b1), .D(x[0])); its own nets are 8 to 11: the constant is a gate on the clock pin's own net
abbrev tied : List Conn
tied = (record { pin = codes "C"; wires = Some (wire.Const true ∷ []) }) ∷ conn (codes "D") 2 ∷ []

abbrev gate_t : Gate
gate_t = record { func = OneForm; ins = []; out = 11 }

abbrev reg_t : Reg
reg_t = record {
  next = pin_0;
  clear = None;
  preset = None;
  both = false;
  ins = 2 ∷ [];
  outs = (record { net = 9; inverted = false }) ∷ (record { net = 10; inverted = true }) ∷ [];
}

tied_is : inst_parts source lib (0 ∷ 1 ∷ 2 ∷ []) tied 8 (codes "F") ≡ part.Comb false [] (gate_t ∷ []) ∷ part.Flop 11 reg_t ∷ []
unfolding inst_parts module_of cell_of wires_of
tied_is = refl
