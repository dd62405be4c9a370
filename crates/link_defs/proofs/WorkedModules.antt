-- Two instances of a module between the bits of two buses, a module that contains itself, and two modules that could be
-- the top, as the definitions see them.
use Rattle.std.proofs.Common.{◌≡◌, ℕ, true, false, arith, List, [], ◌∷◌, map, Some, None, refl}
use Rattle.std.specs.Prelude.{codes}
use Rattle.netlist_types.specs.declared.sources.Source.{Source}
use Rattle.netlist_types.specs.declared.sources.Module.{Module}
use Rattle.netlist_types.specs.declared.sources.Item.TheVariants as item
use Rattle.netlist_types.specs.declared.sources.Dir.TheVariants as dir
use Rattle.cell_types.specs.declared.libraries.Library.{Library}
use Rattle.net_model.specs.Form.{PinForm}
use Rattle.net_model.specs.declared.netlist.Gate.{Gate}
use Rattle.cell_types.specs.Builtin.{builtin_cells}
use Rattle.link_defs.specs.declared.circuits.Part.TheVariants as part
use Rattle.link_defs.specs.declared.cuts.CutSource.{CutSource}
use Rattle.linked_types.specs.declared.faults.LinkFault.TheVariants as fault
use Rattle.linked_types.specs.declared.options.LinkOptions.{LinkOptions}
use Rattle.linked_types.specs.declared.names.PortName.{PortName}
use Rattle.graph_order.specs.Needs.{Stay}
use Rattle.link_defs.specs.Hierarchy.{cell_of, wires_of, tops}
use Rattle.netlist_types.specs.Lawful.{module_of}
use Rattle.link_defs.specs.Flatten.{flat_of, full_names, add_scope, add_item, inst_nets, inner_nets, join_bits}
use Rattle.link_defs.specs.Parts.{inst_parts}
use Rattle.link_defs.specs.Circuits.{circuit_of, input_bits}
use Rattle.link_defs.specs.CellNames.{Leaf, leaves, leaves_of}
use Rattle.link_defs.specs.Faults.{IsCause}
use Rattle.link_defs.specs.Links.{ports_of}
use Rattle.link_defs.proofs.Worked.{conn, port}

-- the cells that are known without a file
abbrev pub builtin : Library
builtin = record { cells = builtin_cells }

-- module m (input a, output y); BUF g (.A(a), .Y(y)); endmodule
abbrev pub m : Module
m = record {
  name = codes "m";
  ports = port (codes "a") dir.Input (0 ∷ []) false ∷ port (codes "y") dir.Output (1 ∷ []) false ∷ [];
  nets = (codes "a") ∷ (codes "y") ∷ [];
  items =
      item.Inst (codes "BUF") (codes "g") (conn (codes "A") 0 ∷ conn (codes "Y") 1 ∷ [])
      ∷ [];
}

-- module top (input [1:0] x, output [1:0] z); m u1 (.a(x[1]), .y(z[0])); m u2 (.a(x[0]), .y(z[1])); endmodule
abbrev pub top : Module
top = record {
  name = codes "top";
  ports = port (codes "x") dir.Input (0 ∷ 1 ∷ []) true ∷ port (codes "z") dir.Output (2 ∷ 3 ∷ []) true ∷ [];
  nets = (codes "x[1]") ∷ (codes "x[0]") ∷ (codes "z[1]") ∷ (codes "z[0]") ∷ [];
  items =
      item.Inst (codes "m") (codes "u1") (conn (codes "a") 0 ∷ conn (codes "y") 3 ∷ [])
      ∷ item.Inst (codes "m") (codes "u2") (conn (codes "a") 1 ∷ conn (codes "y") 2 ∷ [])
      ∷ [];
}

abbrev buses : Source
buses = record { modules = m ∷ top ∷ [] }

top_is : tops buses ≡ top ∷ []
top_is = refl

abbrev bit : List ℕ → PortName
bit name = record { name = name; bus = Some (codes "x") }

-- the input bits, the most significant first
inputs_are : ports_of (input_bits top) ≡ bit (codes "x[1]") ∷ bit (codes "x[0]") ∷ []
inputs_are = refl

-- x[1] and u1/a are one net, and so are z[0] and u1/y
names_are : full_names (flat_of buses builtin top) ≡ (codes "x[1]", 0) ∷ (codes "x[0]", 1) ∷ (codes "z[1]", 2) ∷ (codes "z[0]", 3)
    ∷ (codes "u1/a", 0) ∷ (codes "u1/y", 3) ∷ (codes "u2/a", 1) ∷ (codes "u2/y", 2) ∷ []
unfolding add_scope add_item inst_nets inner_nets join_bits module_of cell_of wires_of
names_are = refl

cells_are : map (λ (l : Leaf). l.name) (leaves buses builtin (flat_of buses builtin top)) ≡ codes "u1/g" ∷ codes "u2/g" ∷ []
unfolding leaves_of inst_parts add_scope add_item inst_nets inner_nets join_bits module_of cell_of wires_of
cells_are = refl

abbrev buffer : ℕ → ℕ → Gate
buffer from to = record { func = PinForm 0; ins = from ∷ []; out = to }

-- each output has its buffer; the twelve nets are four of the top, and for each instance two and its buffer's two pins
circuit_is : circuit_of buses builtin top None ≡ (record {
  nets = 12;
  clocks = [];
  inputs = 0 ∷ 1 ∷ [];
  outputs = 2 ∷ 3 ∷ [];
  parts = part.Comb true (0 ∷ []) (buffer 0 3 ∷ []) ∷ part.Comb true (1 ∷ []) (buffer 1 2 ∷ []) ∷ [];
})
unfolding circuit_of inst_parts add_scope add_item inst_nets inner_nets join_bits module_of cell_of wires_of
circuit_is = refl

-- module m (); m u (); endmodule
abbrev inner : Module
inner = record { name = codes "m"; ports = []; nets = []; items = item.Inst (codes "m") (codes "u") [] ∷ [] }

abbrev empty : List ℕ → Module
empty name = record { name = name; ports = []; nets = []; items = [] }

abbrev pub no_options : LinkOptions
no_options = record {
  clock = None;
  fixed = [];
  resets = [];
  reset_len = 0;
  wide = false;
  cut_clocks = false;
}

-- a source of which nothing is cut out
abbrev whole : Source → CutSource
whole s = record { source = s; items = [] }

-- module top (); endmodule beside it
contains_itself : IsCause (whole (record { modules = inner ∷ empty (codes "top") ∷ [] })) builtin no_options (fault.Recursive (codes "m"))
contains_itself = (0, inner, refl, refl, record { by = 0; needed = (0, omega arith, refl); back = Stay 0 })

-- module a (); endmodule module b (); endmodule
two_tops : IsCause (whole (record { modules = empty (codes "a") ∷ empty (codes "b") ∷ [] })) builtin no_options (fault.NoTop 2)
two_tops = (refl, λ e. cc)
