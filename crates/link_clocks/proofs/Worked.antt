-- A flop on a second clock, one on the inverted clock and one behind a clock gate, computed: the first two are cut out with their pins, what
-- they drove is nobody's, and the third stays.
use Rattle.std.proofs.Common.{◌≡◌, ℕ, Bool, true, false, List, [], ◌∷◌, Some, None, refl, arith}
use Rattle.std.specs.Prelude.{codes}
use Rattle.net_model.specs.Form.{PinForm, NotForm}
use Rattle.net_model.specs.declared.netlist.Gate.{Gate}
use Rattle.net_model.specs.declared.netlist.Reg.{Reg}
use Rattle.cell_types.specs.declared.libraries.Cell.{Cell}
use Rattle.cell_types.specs.declared.libraries.CellKind.TheVariants as kind
use Rattle.link_defs.specs.declared.circuits.Circuit.{Circuit}
use Rattle.link_defs.specs.declared.circuits.Part.{Part}
use Rattle.link_defs.specs.declared.circuits.Part.TheVariants as part
use Rattle.link_defs.specs.declared.cuts.CutCell.{CutCell}
use Rattle.link_defs.specs.declared.cuts.CutPin.{CutPin}
use Rattle.link_defs.specs.declared.cuts.Way.{Way}
use Rattle.link_defs.specs.declared.cuts.Way.TheVariants as way
use Rattle.link_defs.specs.CellNames.{Leaf}
use Rattle.link_defs.specs.Circuits.{OnTree, Root, Buffered, Gated}
use Rattle.link_defs.specs.Judged.{FlatNetlist, IsJudged, off_clock}

-- n = not clk
abbrev inverter : Gate
inverter = record { func = NotForm (PinForm 0); ins = 0 ∷ []; out = 3 }

-- a register that reads d
abbrev reg : ℕ → Reg
reg out = record { next = PinForm 0; clear = None; preset = None; both = false; ins = 2 ∷ []; outs = (record { net = out; inverted = false }) ∷ [] }

-- module top (input clk, ck2, d, ..); INV i (.A(clk), .Y(n)); CG g (.CK(clk), .E(d), .GCK(k));
-- F a (.D(d), .C(ck2), .Q(qa)); F b (.D(d), .C(n), .Q(qb)); F c (.D(d), .C(k), .Q(qc)); endmodule
abbrev gate_part : Part
gate_part = part.Gate 0 (2 ∷ []) 4

abbrev parts : List Part
parts =
    part.Comb true (0 ∷ []) (inverter ∷ []) ∷ gate_part ∷ part.Flop 1 (reg 5) ∷ part.Flop 3 (reg 6)
    ∷ part.Flop 4 (reg 7) ∷ []

abbrev circuit : Circuit
circuit = record { nets = 8; clocks = 0 ∷ []; inputs = 1 ∷ 2 ∷ []; outputs = 5 ∷ 6 ∷ 7 ∷ []; parts = parts }

abbrev flop : Cell
flop = record {
  name = codes "F";
  inputs = codes "D" ∷ [];
  power = [];
  kind = kind.Flop (record {
    clock = codes "C";
    next = PinForm 0;
    clear = None;
    preset = None;
    both = false;
    outs = (record { name = codes "Q"; inverted = false }) ∷ [];
  });
}

abbrev clock_gate : Cell
clock_gate = record {
  name = codes "CG";
  inputs = codes "E" ∷ [];
  power = [];
  kind = kind.Gate (record { clock = codes "CK"; enables = codes "E" ∷ []; out = codes "GCK" });
}

abbrev leaf : List ℕ → Cell → Part → Leaf
leaf name cell p = record { name = name; cell = Some cell; part = p }

abbrev gated : Leaf
gated = leaf (codes "g") clock_gate gate_part

abbrev behind : Leaf
behind = leaf (codes "c") flop (part.Flop 4 (reg 7))

abbrev netlist : FlatNetlist
netlist = record {
  circuit = circuit;
  found = gated ∷ leaf (codes "a") flop (part.Flop 1 (reg 5)) ∷ leaf (codes "b") flop (part.Flop 3 (reg 6)) ∷ behind ∷ [];
  cells = [];
}

-- the clock's net, and that of its gate
abbrev even : List Bool
even = true ∷ false ∷ false ∷ false ∷ true ∷ []

abbrev pin : List ℕ → Way → ℕ → CutPin
pin name w net = record { name = name; way = w; net = net }

abbrev cell : List ℕ → ℕ → ℕ → CutCell
cell name clock out = record {
  cell = codes "F";
  name = name;
  clocked = false;
  pins = pin (codes "D") way.In 2 ∷ pin (codes "C") way.In clock ∷ pin (codes "Q") way.Out out ∷ [];
  fault = None;
}

-- those on the second and on the inverted clock are cut out
cells_are : (off_clock even netlist).cells ≡ cell (codes "a") 1 5 ∷ cell (codes "b") 3 6 ∷ []
cells_are = refl

-- the one behind the gate stays, and the gate
found_are : (off_clock even netlist).found ≡ gated ∷ behind ∷ []
found_are = refl

-- nothing is left of the parts of the two, and the others stand where they stood
parts_are : (off_clock even netlist).circuit.parts
    ≡ part.Comb true (0 ∷ []) (inverter ∷ []) ∷ gate_part ∷ part.Comb false [] [] ∷ part.Comb false [] [] ∷ part.Flop 4 (reg 7) ∷ []
parts_are = refl

-- the clock comes to the gate's net, and to the inverter's after an odd number of inversions
behind_gate : OnTree circuit 4 false
behind_gate = Gated 0 (2 ∷ []) 4 (1, omega arith, refl) (Root 0 (0, omega arith, refl))

inverted : OnTree circuit 3 true
inverted = Buffered 0 (inverter ∷ []) inverter false (0, omega arith, refl) (0, omega arith, refl) (Root 0 (0, omega arith, refl))

-- with one clock alone all is judged
alone : IsJudged false netlist netlist
alone = record { even = []; even_is = λ e. absurd (let wrong = e in cc); is = refl }
