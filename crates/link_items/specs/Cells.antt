-- The parts of a cell by its kind.
use Rattle.std.specs.Prelude.{ℕ, ◌+◌, List, ◌++◌, length}
use Rattle.netlist_types.specs.declared.sources.Conn.{Conn}
use Rattle.cell_types.specs.declared.libraries.Cell.{Cell}
use Rattle.cell_types.specs.declared.libraries.CombOut.{CombOut}
use Rattle.cell_types.specs.declared.libraries.Flop.{Flop}
use Rattle.cell_types.specs.declared.libraries.GateCell.{GateCell}
use Rattle.link_defs.specs.declared.circuits.Part.{Part}
use Rattle.link_defs.specs.declared.circuits.Part.TheVariants as part
use Rattle.link_defs.specs.Hierarchy.{wires_of}
use Rattle.link_defs.specs.Parts.{pin_net, pin_nets, comb_gates, is_buffer_cell, outs_from, clock_net, flop_reg, gate_clock, ties, pin_ties}

-- a combinational cell with these outputs
abbrev pub comb_part : List ℕ → List Conn → ℕ → Cell → List CombOut → Part
comb_part nets conns first c outs =
    let ins = pin_nets nets conns first c.inputs in part.Comb (is_buffer_cell c.inputs outs) ins (comb_gates nets conns ins (outs_from first c) outs)

-- a cell that is this flop
abbrev pub flop_part : List ℕ → List Conn → ℕ → Cell → Flop → Part
flop_part nets conns first c f = part.Flop (clock_net nets conns first c f) (flop_reg nets conns first c f)

-- the constants that its input pins and its clock pin are connected to
abbrev pub flop_ties : List Conn → ℕ → Cell → Flop → List Part
flop_ties conns first c f = pin_ties conns first c.inputs ++ ties (outs_from first c + length f.outs) (wires_of conns f.clock)

-- a cell that is this clock gate
abbrev pub gate_part : List ℕ → List Conn → ℕ → Cell → GateCell → Part
gate_part nets conns first c g =
    part.Gate (gate_clock nets conns first c g) (pin_nets nets conns first c.inputs) (pin_net nets (outs_from first c) (wires_of conns g.out))

-- the constants that its enables and its clock pin are connected to
abbrev pub gate_ties : List Conn → ℕ → Cell → GateCell → List Part
gate_ties conns first c g = pin_ties conns first c.inputs ++ ties (outs_from first c + 1) (wires_of conns g.clock)
