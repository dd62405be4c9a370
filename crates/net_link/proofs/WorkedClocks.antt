-- Two registers on the judged clock, and between them one on another: it is cut out with its pins, what it drove is a data input, and what it
-- reads is no output, for it captures nothing at the edge of the judged clock.
use Rattle.std.proofs.Common.{◌≡◌, ℕ, true, false, List, [], ◌∷◌, map, Some, None, refl}
use Rattle.std.specs.Prelude.{codes}
use Rattle.netlist_types.specs.declared.sources.Module.{Module}
use Rattle.netlist_types.specs.declared.sources.Item.TheVariants as item
use Rattle.netlist_types.specs.declared.sources.Dir.TheVariants as dir
use Rattle.netlist_types.specs.Lawful.{module_of}
use Rattle.linked_types.specs.declared.names.CellName.{CellName}
use Rattle.linked_types.specs.declared.names.PinRole.TheVariants as role
use Rattle.link_defs.specs.declared.cuts.CutCell.{CutCell}
use Rattle.link_defs.specs.declared.cuts.CutPin.{CutPin}
use Rattle.link_defs.specs.declared.cuts.CutSource.{CutSource}
use Rattle.link_defs.specs.declared.cuts.Way.{Way}
use Rattle.link_defs.specs.declared.cuts.Way.TheVariants as way
use Rattle.link_defs.specs.CellNames.{Leaf, leaves_of}
use Rattle.link_defs.specs.Circuits.{circuit_of, clock_port}
use Rattle.link_defs.specs.Cuts.{Tree, CutFrame, cut_circuit, free_pins, sink_pins, pin_name, cut_cell_names, cut_names}
use Rattle.link_defs.specs.Flatten.{add_scope, add_item, inst_nets, inner_nets, join_bits}
use Rattle.link_defs.specs.Hierarchy.{cell_of, wires_of}
use Rattle.link_defs.specs.Judged.{FlatNetlist, netlist_of, off_clock}
use Rattle.link_defs.specs.Parts.{inst_parts}
use Rattle.link_defs.proofs.Worked.{conn, port}
use Rattle.link_defs.proofs.WorkedModules.{builtin}

-- module top (input clk, ck2, rst, d, output y); wire qa, qb, n1; DFFC a (.D(d), .C(rst), .CK(clk), .Q(qa));
-- DFFC b (.D(qa), .C(rst), .CK(ck2), .Q(qb)); AND2 g1 (.A(qa), .B(qb), .Y(n1)); DFFC c (.D(n1), .C(rst), .CK(clk), .Q(y)); endmodule
abbrev top : Module
top = record {
  name = codes "top";
  ports =
      port (codes "clk") dir.Input (0 ∷ []) false ∷ port (codes "ck2") dir.Input (1 ∷ []) false ∷ port (codes "rst") dir.Input (2 ∷ []) false
      ∷ port (codes "d") dir.Input (3 ∷ []) false ∷ port (codes "y") dir.Output (4 ∷ []) false ∷ [];
  nets = codes "clk" ∷ codes "ck2" ∷ codes "rst" ∷ codes "d" ∷ codes "y" ∷ codes "qa" ∷ codes "qb" ∷ codes "n1" ∷ [];
  items =
      item.Inst (codes "DFFC") (codes "a") (conn (codes "D") 3 ∷ conn (codes "C") 2 ∷ conn (codes "CK") 0 ∷ conn (codes "Q") 5 ∷ [])
      ∷ item.Inst (codes "DFFC") (codes "b") (conn (codes "D") 5 ∷ conn (codes "C") 2 ∷ conn (codes "CK") 1 ∷ conn (codes "Q") 6 ∷ [])
      ∷ item.Inst (codes "AND2") (codes "g1") (conn (codes "A") 5 ∷ conn (codes "B") 6 ∷ conn (codes "Y") 7 ∷ [])
      ∷ item.Inst (codes "DFFC") (codes "c") (conn (codes "D") 7 ∷ conn (codes "C") 2 ∷ conn (codes "CK") 0 ∷ conn (codes "Q") 4 ∷ [])
      ∷ [];
}

abbrev source : CutSource
source = record { source = record { modules = top ∷ [] }; items = [] }

-- the clock's net alone is on the clock tree
abbrev tree : Tree
tree = record { all = true ∷ []; even = true ∷ [] }

abbrev judged : FlatNetlist
judged = off_clock tree.even (netlist_of source builtin top (Some (codes "clk")))

abbrev pin : Way → List ℕ → ℕ → CutPin
pin w name net = record { name = name; way = w; net = net }

abbrev cell : CutCell
cell = record {
  cell = codes "DFFC";
  name = codes "b";
  clocked = false;
  pins = pin way.In (codes "D") 5 ∷ pin way.In (codes "C") 2 ∷ pin way.In (codes "CK") 1 ∷ pin way.Out (codes "Q") 6 ∷ [];
  fault = None;
}

-- the register on the other clock is cut out, and the others are left
cells_are : judged.cells ≡ cell ∷ []
unfolding circuit_of leaves_of inst_parts add_scope add_item inst_nets inner_nets join_bits module_of cell_of wires_of
cells_are = refl

found_are : map (λ (l : Leaf). l.name) judged.found ≡ codes "a" ∷ codes "g1" ∷ codes "c" ∷ []
unfolding circuit_of leaves_of inst_parts add_scope add_item inst_nets inner_nets join_bits module_of cell_of wires_of
found_are = refl

-- what it drove may be anything, and it captures nothing
free_is : map pin_name (free_pins judged.circuit (cell ∷ [])) ≡ codes "b/Q" ∷ []
unfolding circuit_of inst_parts add_scope add_item inst_nets inner_nets join_bits module_of cell_of wires_of
free_is = refl

sinks_are : map pin_name (sink_pins judged.circuit tree (cell ∷ [])) ≡ []
unfolding circuit_of inst_parts add_scope add_item inst_nets inner_nets join_bits module_of cell_of wires_of
sinks_are = refl

-- the other clock is a data input as any, and qb one after the ports
inputs_are : (cut_circuit judged.circuit tree (cell ∷ [])).inputs ≡ 1 ∷ 2 ∷ 3 ∷ 6 ∷ []
unfolding cut_circuit circuit_of inst_parts add_scope add_item inst_nets inner_nets join_bits module_of cell_of wires_of
inputs_are = refl

outputs_are : (cut_circuit judged.circuit tree (cell ∷ [])).outputs ≡ 4 ∷ []
unfolding cut_circuit circuit_of inst_parts add_scope add_item inst_nets inner_nets join_bits module_of cell_of wires_of
outputs_are = refl

abbrev frame : CutFrame
frame = record { circuit = judged.circuit; tree = tree; cells = cell ∷ []; number = λ net. net }

abbrev told : CellName
told = record {
  name = codes "b";
  reg = None;
  outs = 6 ∷ [];
  pins =
      (record { name = codes "D"; role = role.Load [] }) ∷ (record { name = codes "C"; role = role.Load [] })
      ∷ (record { name = codes "CK"; role = role.Load [] }) ∷ (record { name = codes "Q"; role = role.Drive 6 }) ∷ [];
}

-- no pin of it is where a pair begins or ends
names_are : cut_cell_names frame 0 (cell ∷ []) ≡ told ∷ []
unfolding circuit_of inst_parts add_scope add_item inst_nets inner_nets join_bits module_of cell_of wires_of
names_are = refl

references_are : cut_names (cell ∷ []) ≡ (record { cell = codes "DFFC"; count = 1; «open» = false }) ∷ []
references_are = refl

-- the clock by name
clock_is : clock_port (Some (codes "clk")) top ≡ Some (record { name = codes "clk"; bus = None })
clock_is = refl
