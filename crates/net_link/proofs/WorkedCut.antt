-- A register, a memory that is cut out, a gate that reads both, and a register: the memory's output is a data input, what it reads is an
-- output, and its pins tell of both.
use Rattle.std.proofs.Common.{◌≡◌, ℕ, true, false, List, [], ◌∷◌, map, Some, None, refl}
use Rattle.std.specs.Prelude.{codes}
use Rattle.netlist_types.specs.declared.sources.Source.{Source}
use Rattle.netlist_types.specs.declared.sources.Module.{Module}
use Rattle.netlist_types.specs.declared.sources.Item.TheVariants as item
use Rattle.netlist_types.specs.declared.sources.Dir.TheVariants as dir
use Rattle.netlist_types.specs.Lawful.{module_of}
use Rattle.linked_types.specs.declared.names.CellName.{CellName}
use Rattle.linked_types.specs.declared.names.PinRole.TheVariants as role
use Rattle.link_defs.specs.declared.circuits.Circuit.{Circuit}
use Rattle.link_defs.specs.declared.cuts.CutCell.{CutCell}
use Rattle.link_defs.specs.declared.cuts.CutItem.{CutItem}
use Rattle.link_defs.specs.declared.cuts.CutPin.{CutPin}
use Rattle.link_defs.specs.declared.cuts.Way.TheVariants as way
use Rattle.link_defs.specs.Circuits.{circuit_of}
use Rattle.link_defs.specs.Cuts.{Tree, CutFrame, cut_cells, cut_circuit, free_pins, sink_pins, pin_name, cut_cell_names, cut_names}
use Rattle.link_defs.specs.Flatten.{flat_of, add_scope, add_item, inst_nets, inner_nets, join_bits}
use Rattle.link_defs.specs.Hierarchy.{cell_of, wires_of}
use Rattle.link_defs.specs.Parts.{inst_parts}
use Rattle.link_defs.proofs.Worked.{conn, port}
use Rattle.link_defs.proofs.WorkedModules.{builtin}

-- module top (input clk, rst, d, output y); wire qa, w, n1; DFFC a (.D(d), .C(rst), .CK(clk), .Q(qa)); AND2 g1 (.A(qa), .B(w), .Y(n1));
-- DFFC b (.D(n1), .C(rst), .CK(clk), .Q(y)); endmodule
abbrev top : Module
top = record {
  name = codes "top";
  ports =
      port (codes "clk") dir.Input (0 ∷ []) false ∷ port (codes "rst") dir.Input (1 ∷ []) false ∷ port (codes "d") dir.Input (2 ∷ []) false
      ∷ port (codes "y") dir.Output (3 ∷ []) false ∷ [];
  nets = codes "clk" ∷ codes "rst" ∷ codes "d" ∷ codes "y" ∷ codes "qa" ∷ codes "w" ∷ codes "n1" ∷ [];
  items =
      item.Inst (codes "DFFC") (codes "a") (conn (codes "D") 2 ∷ conn (codes "C") 1 ∷ conn (codes "CK") 0 ∷ conn (codes "Q") 4 ∷ [])
      ∷ item.Inst (codes "AND2") (codes "g1") (conn (codes "A") 4 ∷ conn (codes "B") 5 ∷ conn (codes "Y") 6 ∷ [])
      ∷ item.Inst (codes "DFFC") (codes "b") (conn (codes "D") 6 ∷ conn (codes "C") 1 ∷ conn (codes "CK") 0 ∷ conn (codes "Q") 3 ∷ [])
      ∷ [];
}

abbrev source : Source
source = record { modules = top ∷ [] }

abbrev pin : List ℕ → ℕ → CutPin
pin name net = record { name = name; way = way.Either; net = net }

-- RAM m (.A(qa), .CLK(clk), .Q(w)), which no library has
abbrev pins : List CutPin
pins = pin (codes "A") 4 ∷ pin (codes "CLK") 0 ∷ pin (codes "Q") 5 ∷ []

abbrev ram : CutItem
ram = record { «module» = codes "top"; cell = codes "RAM"; name = codes "m"; clocked = true; pins = pins; fault = None }

abbrev cell : CutCell
cell = record { cell = codes "RAM"; name = codes "m"; clocked = true; pins = pins; fault = None }

-- it is cut out of the top module
cells_are : cut_cells (ram ∷ []) (flat_of source builtin top).scopes ≡ cell ∷ []
unfolding add_scope add_item inst_nets inner_nets join_bits module_of cell_of wires_of
cells_are = refl

abbrev circuit : Circuit
circuit = circuit_of source builtin top (Some (codes "clk"))

-- the clock's net alone is on the clock tree
abbrev tree : Tree
tree = record { all = true ∷ []; even = true ∷ [] }

free_is : map pin_name (free_pins circuit (cell ∷ [])) ≡ codes "m/Q" ∷ []
unfolding circuit_of inst_parts add_scope add_item inst_nets inner_nets join_bits module_of cell_of wires_of
free_is = refl

sinks_are : map pin_name (sink_pins circuit tree (cell ∷ [])) ≡ codes "m/A" ∷ []
unfolding circuit_of inst_parts add_scope add_item inst_nets inner_nets join_bits module_of cell_of wires_of
sinks_are = refl

-- w is a data input after the ports, and qa an output after the ports
inputs_are : (cut_circuit circuit tree (cell ∷ [])).inputs ≡ 1 ∷ 2 ∷ 5 ∷ []
unfolding cut_circuit circuit_of inst_parts add_scope add_item inst_nets inner_nets join_bits module_of cell_of wires_of
inputs_are = refl

outputs_are : (cut_circuit circuit tree (cell ∷ [])).outputs ≡ 3 ∷ 4 ∷ []
unfolding cut_circuit circuit_of inst_parts add_scope add_item inst_nets inner_nets join_bits module_of cell_of wires_of
outputs_are = refl

abbrev frame : CutFrame
frame = record { circuit = circuit; tree = tree; cells = cell ∷ []; number = λ net. net }

abbrev told : CellName
told = record {
  name = codes "m";
  reg = None;
  outs = 5 ∷ [];
  pins =
      (record { name = codes "A"; role = role.Sink 1 }) ∷ (record { name = codes "CLK"; role = role.Load [] })
      ∷ (record { name = codes "Q"; role = role.Source 2 }) ∷ [];
}

names_are : cut_cell_names frame 0 (cell ∷ []) ≡ told ∷ []
unfolding circuit_of inst_parts add_scope add_item inst_nets inner_nets join_bits module_of cell_of wires_of
names_are = refl

references_are : cut_names (cell ∷ []) ≡ (record { cell = codes "RAM"; count = 1; «open» = false }) ∷ []
references_are = refl
