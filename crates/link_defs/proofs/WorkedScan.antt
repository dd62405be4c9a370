-- A block with a scan chain as a synthesis tool writes it, over six cells of a library: six registers and nine gates.
use Rattle.std.proofs.Common.{◌≡◌, ℕ, Bool, true, false, List, [], ◌∷◌, map, length, Some, None, refl}
use Rattle.std.specs.Prelude.{codes}
use Rattle.netlist_types.specs.declared.sources.Source.{Source}
use Rattle.netlist_types.specs.declared.sources.Module.{Module}
use Rattle.netlist_types.specs.declared.sources.Item.TheVariants as item
use Rattle.netlist_types.specs.declared.sources.Wire.TheVariants as wire
use Rattle.netlist_types.specs.declared.sources.Dir.TheVariants as dir
use Rattle.cell_types.specs.declared.libraries.Library.{Library}
use Rattle.netlist_types.specs.declared.sources.Item.{Item}
use Rattle.netlist_types.specs.declared.sources.Conn.{Conn}
use Rattle.net_model.specs.Form.{PinForm, NotForm, AndForm, OrForm, XorForm}
use Rattle.cell_types.specs.declared.libraries.Cell.{Cell}
use Rattle.cell_types.specs.declared.libraries.CellKind.TheVariants as kind
use Rattle.link_defs.specs.Hierarchy.{cell_of, wires_of}
use Rattle.netlist_types.specs.Lawful.{module_of}
use Rattle.link_defs.specs.Flatten.{flat_of, add_scope, add_item, inst_nets, inner_nets, join_bits}
use Rattle.link_defs.specs.Parts.{inst_parts}
use Rattle.link_defs.specs.Circuits.{circuit_of, regs_of}
use Rattle.link_defs.specs.Designs.{equations, drivers_by}
use Rattle.link_defs.specs.CellNames.{Leaf, leaves, leaves_of}
use Rattle.link_defs.proofs.Worked.{conn, unconnected, port, comb, pin_0, pin_1, pin_2}

-- a scan register on CK with D, SI, SE and an active low clear RN, and the outputs Q and QN
abbrev scan_flop : Cell
scan_flop = record {
  name = codes "SDFFRX1";
  inputs = codes "D" ∷ codes "SI" ∷ codes "SE" ∷ codes "RN" ∷ [];
  power = [];
  kind = kind.Flop (record {
    clock = codes "CK";
    next = OrForm (AndForm pin_2 pin_1) (AndForm (NotForm pin_2) pin_0);
    clear = Some (NotForm (PinForm 3));
    preset = None;
    both = false;
    outs = (record { name = codes "Q"; inverted = false }) ∷ (record { name = codes "QN"; inverted = true }) ∷ [];
  });
}

abbrev demo45 : Library
demo45 = record {
  cells =
      comb (codes "INVX1") (codes "A" ∷ []) (NotForm pin_0)
      ∷ comb (codes "XOR2X1") (codes "A" ∷ codes "B" ∷ []) (XorForm pin_0 pin_1)
      ∷ comb (codes "NOR2X1") (codes "A" ∷ codes "B" ∷ []) (NotForm (OrForm pin_0 pin_1))
      ∷ comb (codes "AND2X1") (codes "A" ∷ codes "B" ∷ []) (AndForm pin_0 pin_1)
      ∷ comb (codes "MUX2X1") (codes "A" ∷ codes "B" ∷ codes "S0" ∷ []) (OrForm (AndForm (NotForm pin_2) pin_0) (AndForm pin_2 pin_1))
      ∷ scan_flop ∷ [];
}

-- an instance of it on the nets clk 0, rst_n 1 and se 2
abbrev scan : List ℕ → ℕ → ℕ → ℕ → List Conn → Item
scan name d si q more =
    item.Inst (codes "SDFFRX1") name
    (conn (codes "D") d ∷ conn (codes "SI") si ∷ conn (codes "SE") 2 ∷ conn (codes "RN") 1 ∷ conn (codes "CK") 0 ∷ conn (codes "Q") q ∷ more)

-- a two-bit register b after a two-bit register a, whose enables la and lb come from a two-bit phase ph
abbrev pub blk : Module
blk = record {
  name = codes "blk";
  ports = port (codes "clk") dir.Input (0 ∷ []) false ∷ port (codes "rst_n") dir.Input (1 ∷ []) false ∷ port (codes "se") dir.Input (2 ∷ []) false
      ∷ port (codes "si") dir.Input (3 ∷ []) false ∷ port (codes "din") dir.Input (4 ∷ 5 ∷ []) true ∷ port (codes "so") dir.Output (6 ∷ []) false
      ∷ [];
  nets = (codes "clk") ∷ (codes "rst_n") ∷ (codes "se") ∷ (codes "si") ∷ (codes "din[1]") ∷ (codes "din[0]") ∷ (codes "so") ∷ (codes "ph[0]")
      ∷ (codes "n1") ∷ (codes "ph[1]") ∷ (codes "n2") ∷ (codes "la") ∷ (codes "lb") ∷ (codes "a[0]") ∷ (codes "m0") ∷ (codes "a[1]") ∷ (codes "m1")
      ∷ (codes "b[0]") ∷ (codes "m2") ∷ (codes "b[1]") ∷ (codes "m3") ∷ [];
  items =
      item.Inst (codes "INVX1") (codes "U1") (conn (codes "A") 7 ∷ conn (codes "Y") 8 ∷ [])
      ∷ item.Inst (codes "XOR2X1") (codes "U2") (conn (codes "A") 9 ∷ conn (codes "B") 7 ∷ conn (codes "Y") 10 ∷ [])
      ∷ item.Inst (codes "NOR2X1") (codes "U3") (conn (codes "A") 7 ∷ conn (codes "B") 9 ∷ conn (codes "Y") 11 ∷ [])
      ∷ item.Inst (codes "AND2X1") (codes "U4") (conn (codes "A") 9 ∷ conn (codes "B") 8 ∷ conn (codes "Y") 12 ∷ [])
      ∷ item.Inst (codes "MUX2X1") (codes "U5") (conn (codes "A") 13 ∷ conn (codes "B") 5 ∷ conn (codes "S0") 11 ∷ conn (codes "Y") 14 ∷ [])
      ∷ item.Inst (codes "MUX2X1") (codes "U6") (conn (codes "A") 15 ∷ conn (codes "B") 4 ∷ conn (codes "S0") 11 ∷ conn (codes "Y") 16 ∷ [])
      ∷ item.Inst (codes "MUX2X1") (codes "U7") (conn (codes "A") 17 ∷ conn (codes "B") 13 ∷ conn (codes "S0") 12 ∷ conn (codes "Y") 18 ∷ [])
      ∷ item.Inst (codes "MUX2X1") (codes "U8") (conn (codes "A") 19 ∷ conn (codes "B") 15 ∷ conn (codes "S0") 12 ∷ conn (codes "Y") 20 ∷ [])
      ∷ scan (codes "ph_reg[0]") 8 3 7 (unconnected (codes "QN") ∷ [])
      ∷ scan (codes "ph_reg[1]") 10 7 9 []
      ∷ scan (codes "a_reg[0]") 14 9 13 []
      ∷ scan (codes "a_reg[1]") 16 13 15 []
      ∷ scan (codes "b_reg[0]") 18 15 17 []
      ∷ scan (codes "b_reg[1]") 20 17 19 []
      ∷ item.Copy 6 (wire.Net 19)
      ∷ [];
}

abbrev source : Source
source = record { modules = blk ∷ [] }

-- the clock's net is 0
abbrev tree : List Bool
tree = true ∷ []

registers_are : length (regs_of (circuit_of source demo45 blk (Some (codes "clk")))) ≡ 6
unfolding circuit_of inst_parts add_scope add_item inst_nets inner_nets join_bits module_of cell_of wires_of
registers_are = refl

-- eight cells, and the assignment
gates_are : length (equations tree (circuit_of source demo45 blk (Some (codes "clk")))) ≡ 9
unfolding circuit_of inst_parts add_scope add_item inst_nets inner_nets join_bits module_of cell_of wires_of
gates_are = refl

cells_are : map (λ (l : Leaf). l.name) (leaves source demo45 (flat_of source demo45 blk)) ≡ codes "U1" ∷ codes "U2" ∷ codes "U3" ∷ codes "U4"
    ∷ codes "U5" ∷ codes "U6" ∷ codes "U7" ∷ codes "U8"
    ∷ codes "ph_reg[0]" ∷ codes "ph_reg[1]" ∷ codes "a_reg[0]" ∷ codes "a_reg[1]" ∷ codes "b_reg[0]" ∷ codes "b_reg[1]" ∷ []
unfolding leaves_of inst_parts add_scope add_item inst_nets inner_nets join_bits module_of cell_of wires_of
cells_are = refl

-- five data inputs, the six registers' two outputs each, and nine gates
nets_are : length (drivers_by (circuit_of source demo45 blk (Some (codes "clk"))) (equations tree (circuit_of source demo45 blk (Some (codes "clk"))))) ≡ 26
unfolding circuit_of inst_parts add_scope add_item inst_nets inner_nets join_bits module_of cell_of wires_of
nets_are = refl
