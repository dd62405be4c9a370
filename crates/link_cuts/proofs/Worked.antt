-- A memory that is cut out beside a gate that reads two of its outputs, computed: each is a data input, what the memory reads is an output;
-- and cells on one net, on a net that the circuit drives, off the clock, and in two instances of one module.
use Rattle.std.proofs.Common.{◌≡◌, ℕ, ◌+◌, Bool, true, false, List, [], ◌∷◌, map, Some, None, refl, arith}
use Rattle.std.specs.Prelude.{codes, Contains}
use Rattle.net_model.specs.Form.{AndForm}
use Rattle.net_model.specs.declared.netlist.Gate.{Gate}
use Rattle.netlist_types.specs.declared.sources.Module.{Module}
use Rattle.linked_types.specs.declared.names.CellName.{CellName}
use Rattle.linked_types.specs.declared.names.CutName.{CutName}
use Rattle.linked_types.specs.declared.names.PinName.{PinName}
use Rattle.linked_types.specs.declared.names.PinRole.{PinRole}
use Rattle.linked_types.specs.declared.names.PinRole.TheVariants as role
use Rattle.link_defs.specs.declared.circuits.Circuit.{Circuit}
use Rattle.link_defs.specs.declared.circuits.Part.TheVariants as part
use Rattle.link_defs.specs.declared.cuts.CutCell.{CutCell}
use Rattle.link_defs.specs.declared.cuts.CutItem.{CutItem}
use Rattle.link_defs.specs.declared.cuts.CutPin.{CutPin}
use Rattle.link_defs.specs.declared.cuts.Way.{Way}
use Rattle.link_defs.specs.declared.cuts.Way.TheVariants as way
use Rattle.link_defs.specs.Circuits.{all_drivers, all_gates}
use Rattle.link_defs.specs.Cuts.{Tree, CutFrame, cut_cells, cut_cell_names, cut_circuit, cut_names, free_nets, free_pins, pin_name, sink_pins}
use Rattle.link_defs.specs.Faults.{IsCutDriver}
use Rattle.link_defs.specs.Faults as link
use Rattle.link_defs.specs.Flatten.{Flat, Scope, full_names}
use Rattle.link_defs.proofs.Worked.{pin_0, pin_1}
use Rattle.link_items.proofs.Listing.{contains_at}
use Rattle.link_cuts.specs.Checks.{IsDrivenPin}

-- y = w & v
abbrev gate : Gate
gate = record { func = AndForm pin_0 pin_1; ins = 2 ∷ 3 ∷ []; out = 4 }

-- module top (input clk, d, output y); wire w, v, u; AND2 g (.A(w), .B(v), .Y(y)); endmodule
abbrev circuit : Circuit
circuit = record { nets = 6; clocks = 0 ∷ []; inputs = 1 ∷ []; outputs = 4 ∷ []; parts = part.Comb false (2 ∷ 3 ∷ []) (gate ∷ []) ∷ [] }

-- the clock's net alone is on the clock tree
abbrev tree : Tree
tree = record { all = true ∷ []; even = true ∷ [] }

abbrev pin : List ℕ → Way → ℕ → CutPin
pin name w net = record { name = name; way = w; net = net }

-- RAM m (.A(d), .CLK(clk), .Q(w), .R(v), .S(u)), where nothing reads u
abbrev pins : List CutPin
pins =
    pin (codes "A") way.In 1 ∷ pin (codes "CLK") way.In 0 ∷ pin (codes "Q") way.Out 2 ∷ pin (codes "R") way.Out 3 ∷ pin (codes "S") way.Out 5 ∷ []

abbrev cell : List ℕ → List ℕ → Bool → List CutPin → CutCell
cell reference name clocked ps = record { cell = reference; name = name; clocked = clocked; pins = ps; fault = None }

abbrev ram : CutCell
ram = cell (codes "RAM") (codes "m") true pins

-- the nets that it drives and that something reads are free
free_is : map pin_name (free_pins circuit (ram ∷ [])) ≡ codes "m/Q" ∷ codes "m/R" ∷ []
free_is = refl

-- two free nets are two data inputs after the ports
inputs_are : (cut_circuit circuit tree (ram ∷ [])).inputs ≡ 1 ∷ 2 ∷ 3 ∷ []
unfolding cut_circuit
inputs_are = refl

-- and no gate drives them: the gates are those of the circuit
gates_are : all_gates (cut_circuit circuit tree (ram ∷ [])) ≡ gate ∷ []
unfolding cut_circuit
gates_are = refl

-- what it reads of the circuit is an output after the ports, but not the clock
outputs_are : (cut_circuit circuit tree (ram ∷ [])).outputs ≡ 4 ∷ 1 ∷ []
unfolding cut_circuit
outputs_are = refl

sinks_are : map pin_name (sink_pins circuit tree (ram ∷ [])) ≡ codes "m/A" ∷ []
sinks_are = refl

abbrev frame : CutCell → CutFrame
frame x = record { circuit = circuit; tree = tree; cells = x ∷ []; number = λ net. net + 10 }

abbrev named : List ℕ → PinRole → PinName
named name r = record { name = name; role = r }

-- its pins: a sink after the one output, the clock's, two sources after the one input, and one that reads and drives nothing
names_are : cut_cell_names (frame ram) 0 (ram ∷ [])
    ≡ (record {
      name = codes "m";
      reg = None;
      outs = 12 ∷ 13 ∷ [];
      pins = named (codes "A") (role.Sink 1) ∷ named (codes "CLK") (role.Load []) ∷ named (codes "Q") (role.Source 1) ∷ named (codes "R") (role.Source 2)
          ∷ named (codes "S") (role.Load []) ∷ [];
    }) ∷ []
names_are = refl

-- a latch, or a flop on the falling edge, captures at no edge of the clock: nothing that it reads is a sink, and it is no source
abbrev latch : CutCell
latch = cell (codes "LAT") (codes "m") false pins

no_sinks : sink_pins circuit tree (latch ∷ []) ≡ []
no_sinks = refl

latch_names : cut_cell_names (frame latch) 0 (latch ∷ [])
    ≡ (record {
      name = codes "m";
      reg = None;
      outs = 12 ∷ 13 ∷ [];
      pins = named (codes "A") (role.Load []) ∷ named (codes "CLK") (role.Load []) ∷ named (codes "Q") (role.Drive 12) ∷ named (codes "R") (role.Drive 13)
          ∷ named (codes "S") (role.Load []) ∷ [];
    }) ∷ []
latch_names = refl

-- but what it drives is free all the same
latch_free : free_nets circuit (latch ∷ []) ≡ 2 ∷ 3 ∷ []
latch_free = refl

-- a memory whose clock pin stands on a net that is no clock's
abbrev off_clock : CutCell
off_clock = cell (codes "RAM") (codes "m") true (pin (codes "A") way.In 1 ∷ pin (codes "Q") way.Out 2 ∷ [])

no_clock : sink_pins circuit tree (off_clock ∷ []) ≡ []
no_clock = refl

-- two cells on one bus: one free net, by the first pin
bus_free : map pin_name (free_pins circuit (cell (codes "TBUF") (codes "t1") true (pin (codes "Y") way.Out 2 ∷ [])
    ∷ cell (codes "TBUF") (codes "t2") true (pin (codes "Y") way.Out 2 ∷ []) ∷ [])) ≡ codes "t1/Y" ∷ []
bus_free = refl

-- a pin that may go either way on a net that the circuit drives reads it, and drives nothing
either_free : free_pins circuit (cell (codes "PAD") (codes "p") true (pin (codes "P") way.Either 1 ∷ []) ∷ []) ≡ []
either_free = refl

-- an output on such a net is a second driver
abbrev driver : CutCell
driver = cell (codes "RAM") (codes "m") true (pin (codes "Q") way.Out 1 ∷ [])

driver_free : free_pins circuit (driver ∷ []) ≡ []
driver_free = refl

abbrev body : Module
body = record { name = codes "top"; ports = []; nets = codes "clk" ∷ codes "d" ∷ []; items = [] }

abbrev flat : Flat
flat = record { count = 6; scopes = (record { prefix = []; body = body; nets = 0 ∷ 1 ∷ []; depth = 0 }) ∷ []; items = [] }

driven : Contains (all_drivers circuit) 1
driven = contains_at (all_drivers circuit) 1 1 refl

refused : IsCutDriver flat circuit (driver ∷ []) (codes "d")
refused =
    link.Cut_driven driver (pin (codes "Q") way.Out 1) (codes "d") (contains_at (driver ∷ []) 0 driver refl)
    (contains_at driver.pins 0 (pin (codes "Q") way.Out 1) refl) refl driven
    (contains_at (full_names flat) 1 (codes "d", 1) refl)

told : IsDrivenPin circuit (driver ∷ []) (Some (record { cell = 0; pin = 0 }))
told = (record { cell = omega arith; pin = omega arith }, refl, driven)

-- module box (input a, output b); RAM m (.A(a), .Q(b)); endmodule, with two instances of it
abbrev box : Module
box = record { name = codes "box"; ports = []; nets = codes "a" ∷ codes "b" ∷ []; items = [] }

abbrev item : CutItem
item = record {
  «module» = codes "box";
  cell = codes "RAM";
  name = codes "m";
  clocked = true;
  pins = pin (codes "A") way.In 0 ∷ pin (codes "Q") way.Out 1 ∷ [];
  fault = None;
}

abbrev scopes : List Scope
scopes =
    (record { prefix = []; body = body; nets = 0 ∷ 1 ∷ []; depth = 0 })
    ∷ (record { prefix = codes "u1/"; body = box; nets = 1 ∷ 2 ∷ []; depth = 1 })
    ∷ (record { prefix = codes "u2/"; body = box; nets = 2 ∷ 3 ∷ []; depth = 1 }) ∷ []

-- it is cut out of each, on the nets of each
cells_are : cut_cells (item ∷ []) scopes
    ≡ cell (codes "RAM") (codes "u1/m") true (pin (codes "A") way.In 1 ∷ pin (codes "Q") way.Out 2 ∷ [])
    ∷ cell (codes "RAM") (codes "u2/m") true (pin (codes "A") way.In 2 ∷ pin (codes "Q") way.Out 3 ∷ []) ∷ []
cells_are = refl

-- each reference once, with how many cells are of it
references_are : cut_names (ram ∷ latch ∷ off_clock ∷ [])
    ≡ (record { cell = codes "RAM"; count = 2; «open» = false }) ∷ (record { cell = codes "LAT"; count = 1; «open» = false }) ∷ []
references_are = refl
