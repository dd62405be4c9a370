-- Four netlists that are refused, each with its cause as the definitions say it.
use Rattle.std.proofs.Common.{◌≡◌, ℕ, ◌==◌, false, arith, List, [], ◌∷◌, None, refl}
use Rattle.std.specs.Prelude.{codes, count_by}
use Rattle.netlist_types.specs.declared.sources.Source.{Source}
use Rattle.netlist_types.specs.declared.sources.Module.{Module}
use Rattle.netlist_types.specs.declared.sources.Item.{Item}
use Rattle.netlist_types.specs.declared.sources.Item.TheVariants as item
use Rattle.netlist_types.specs.declared.sources.Conn.{Conn}
use Rattle.netlist_types.specs.declared.sources.Dir.TheVariants as dir
use Rattle.net_model.specs.Form.{NotForm, AndForm}
use Rattle.net_model.specs.declared.netlist.Gate.{Gate}
use Rattle.linked_types.specs.declared.faults.LinkFault.{LinkFault}
use Rattle.linked_types.specs.declared.faults.LinkFault.TheVariants as fault
use Rattle.link_defs.specs.Hierarchy.{cell_of, wires_of}
use Rattle.netlist_types.specs.Lawful.{module_of}
use Rattle.link_defs.specs.Flatten.{flat_of, add_scope, add_item, inst_nets, inner_nets, join_bits, top_scope}
use Rattle.link_defs.specs.Parts.{inst_parts}
use Rattle.link_defs.specs.CellNames.{leaves}
use Rattle.link_defs.specs.Circuits.{circuit_of, all_drivers, Stay, Go_on}
use Rattle.link_defs.specs.Faults.{IsFlatCause, Twice, Pin_open}
use Rattle.link_defs.proofs.Worked.{conn, unconnected, port, comb, pin_0, pin_1}
use Rattle.link_defs.proofs.WorkedModules.{builtin, no_options}

-- module top (input s, output q); wire qn; and these items; endmodule
abbrev top : List Item → Module
top items = record {
  name = codes "top";
  ports = port (codes "s") dir.Input (0 ∷ []) false ∷ port (codes "q") dir.Output (1 ∷ []) false ∷ [];
  nets = codes "s" ∷ codes "q" ∷ codes "qn" ∷ [];
  items = items;
}

abbrev source : List Item → Source
source items = record { modules = top items ∷ [] }

-- the source with these items is refused so
abbrev IsRefused : List Item → LinkFault → Type 0
IsRefused items f =
    IsFlatCause (source items) builtin no_options (top items) (flat_of (source items) builtin (top items))
    (leaves (source items) builtin (flat_of (source items) builtin (top items))) (circuit_of (source items) builtin (top items) None) f

abbrev inst : List ℕ → List ℕ → List Conn → Item
inst cell name conns = item.Inst cell name conns

-- NAND2 g1 (.A(s), .B(qn), .Y(q)); NAND2 g2 (.A(s), .B(q), .Y(qn));
abbrev latch : List Item
latch =
    inst (codes "NAND2") (codes "g1") (conn (codes "A") 0 ∷ conn (codes "B") 2 ∷ conn (codes "Y") 1 ∷ [])
    ∷ inst (codes "NAND2") (codes "g2") (conn (codes "A") 0 ∷ conn (codes "B") 1 ∷ conn (codes "Y") 2 ∷ []) ∷ []

abbrev nand : ℕ → ℕ → Gate
nand from out = record { func = NotForm (AndForm pin_0 pin_1); ins = 0 ∷ from ∷ []; out = out }

-- q is read by g2, whose output g1 reads, whose output q is
is_loop : IsRefused latch (fault.Loop (codes "q"))
unfolding circuit_of inst_parts add_scope add_item inst_nets inner_nets join_bits module_of cell_of wires_of
is_loop = (
  1,
  (1, omega arith, refl),
  record {
    gate = nand 1 2;
    there = (1, omega arith, refl);
    reads = (1, omega arith, refl);
    back = Go_on 2 1 (nand 2 1) (0, omega arith, refl) (1, omega arith, refl) (Stay 1);
  },
)

-- INV g1 (.A(s), .Y(q)); BUF g2 (.A(s), .Y(q));
abbrev two : List Item
two =
    inst (codes "INV") (codes "g1") (conn (codes "A") 0 ∷ conn (codes "Y") 1 ∷ [])
    ∷ inst (codes "BUF") (codes "g2") (conn (codes "A") 0 ∷ conn (codes "Y") 1 ∷ []) ∷ []

twice : count_by (λ n. n == 1) (all_drivers (circuit_of (source two) builtin (top two) None)) ≡ 2
unfolding circuit_of inst_parts add_scope add_item inst_nets inner_nets join_bits module_of cell_of wires_of
twice = refl

has_two_drivers : IsRefused two (fault.ManyDrivers (codes "q"))
unfolding circuit_of inst_parts add_scope add_item inst_nets inner_nets join_bits module_of cell_of wires_of
has_two_drivers = Twice (codes "q") 1 (1, omega arith, refl) (omega (arith, twice))

-- INV g1 (.A(), .Y(q));
abbrev half : List Item
half = inst (codes "INV") (codes "g1") (unconnected (codes "A") ∷ conn (codes "Y") 1 ∷ []) ∷ []

is_open : IsRefused half (fault.OpenInput (codes "g1/A"))
unfolding circuit_of inst_parts add_scope add_item inst_nets inner_nets join_bits module_of cell_of wires_of
is_open =
    Pin_open (comb (codes "INV") (codes "A" ∷ []) (NotForm pin_0)) (codes "g1") (codes "A") (unconnected (codes "A") ∷ conn (codes "Y") 1 ∷ []) (
      (
        codes "INV",
        record {
          at = record { scope = top_scope (top half); item = inst (codes "INV") (codes "g1") (unconnected (codes "A") ∷ conn (codes "Y") 1 ∷ []); first = 3 };
          name = codes "g1";
          stands = (0, omega arith, refl);
          item_is = refl;
          full_is = refl;
        },
        refl,
        refl,
      ),
      refl,
    )
    (0, omega arith, refl) refl

-- BUF g1 (.A(s), .Y(q)); FOO g2 (.A(s));
abbrev foo : List Item
foo =
    inst (codes "BUF") (codes "g1") (conn (codes "A") 0 ∷ conn (codes "Y") 1 ∷ [])
    ∷ inst (codes "FOO") (codes "g2") (conn (codes "A") 0 ∷ []) ∷ []

is_unknown : IsRefused foo (fault.UnknownCell (codes "FOO"))
unfolding circuit_of inst_parts add_scope add_item inst_nets inner_nets join_bits module_of cell_of wires_of
is_unknown = (
  codes "g2",
  conn (codes "A") 0 ∷ [],
  record {
    at = record { scope = top_scope (top foo); item = inst (codes "FOO") (codes "g2") (conn (codes "A") 0 ∷ []); first = 5 };
    name = codes "g2";
    stands = (1, omega arith, refl);
    item_is = refl;
    full_is = refl;
  },
  refl,
  refl,
)
