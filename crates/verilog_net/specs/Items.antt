-- The items of a module, with nets in place of names.
use Rattle.std.specs.Prelude.{ℕ, Bool, true, false, ◌==◌, ◌&&◌, nat_le, if◌then◌else◌, List, [], ◌∷◌, ◌++◌, length, map, flat_map, Option, Some, None}
use Rattle.std.specs.Prelude.{Result, Ok, Err}
use Rattle.texts.specs.Rules.{◌>>=◌}
use Rattle.netlist_types.specs.declared.gates.PrimKind.{PrimKind}
use Rattle.netlist_types.specs.declared.gates.PrimKind.TheVariants as prim
use Rattle.verilog_syntax.specs.declared.declarations.NetKind.{NetKind}
use Rattle.verilog_syntax.specs.declared.declarations.NetKind.TheVariants as net
use Rattle.verilog_syntax.specs.declared.declarations.ConnDecl.{ConnDecl}
use Rattle.verilog_syntax.specs.declared.declarations.InstDecl.{InstDecl}
use Rattle.verilog_syntax.specs.declared.declarations.PrimDecl.{PrimDecl}
use Rattle.verilog_syntax.specs.declared.declarations.AssignDecl.{AssignDecl}
use Rattle.verilog_syntax.specs.declared.declarations.ItemDecl.{ItemDecl}
use Rattle.verilog_syntax.specs.declared.declarations.ItemDecl.TheVariants.{Ports, Nets, Assigns, Prims, Insts}
use Rattle.netlist_types.specs.declared.faults.VerFault.{VerFault}
use Rattle.netlist_types.specs.declared.faults.VerFault.TheVariants as fault
use Rattle.verilog_scope.specs.declared.scopes.Scope.{Scope}
use Rattle.verilog_scope.specs.Folds.{fold_ok, fold_both, each}
use Rattle.verilog_scope.specs.Decls.{with_new}
use Rattle.verilog_scope.specs.Scopes.{all_bits}
use Rattle.netlist_types.specs.declared.sources.Wire.{Wire}
use Rattle.netlist_types.specs.declared.sources.Wire.TheVariants as wire
use Rattle.netlist_types.specs.declared.sources.Conn.{Conn}
use Rattle.netlist_types.specs.declared.sources.Item.{Item}
use Rattle.netlist_types.specs.declared.sources.Item.TheVariants as item
use Rattle.verilog_net.specs.declared.hierarchies.Hierarchy.{Hierarchy}
use Rattle.verilog_net.specs.Wires.{wires_of, wire_of, net_of, driven, numbers}
use Rattle.verilog_net.specs.Hierarchies.{inner_of, fits, takes_any_width}
use Rattle.verilog_net.specs.Pins.{pins_of}
use Rattle.verilog_net.specs.Spreads.{wide_conns}

-- a connection of a pin; the two sides have one width
unfoldable pub conn_of : Scope → Option Scope → ConnDecl → Result Conn VerFault
conn_of scope inner c = elim c.parts [
  | None ↦ Ok (record { pin = c.pin; wires = None })
  | Some parts ↦ wires_of scope parts >>= λ ws.
      if fits inner c.pin (length ws) then Ok (record { pin = c.pin; wires = Some ws }) else Err (fault.Width c.offset)
]

-- the connections of an instance, each of its pin's width; no two of them are of one pin
unfoldable pub plain_conns : Scope → Option Scope → List ConnDecl → Result (List Conn) VerFault
plain_conns scope inner cs = fold_ok with_new [] (pins_of cs) >>= λ pins. each (conn_of scope inner) cs

abbrev pub conns_of : Bool → Scope → Option Scope → List ConnDecl → Result (List Conn) VerFault
conns_of wide scope inner cs = if takes_any_width wide inner then wide_conns scope cs else plain_conns scope inner cs

-- an instance, which names no pin twice
unfoldable pub inst_of : Bool → Scope → Option Scope → List ℕ → InstDecl → Result Item VerFault
inst_of wide scope inner cell i = conns_of wide scope inner i.conns >>= λ conns. Ok (item.Inst cell i.name conns)

-- a `buf` or `not` has outputs and one input, any other primitive one output and inputs
abbrev pub has_terminals : PrimKind → ℕ → ℕ → Bool
has_terminals prim.Buf outs ins = nat_le 1 outs && ins == 1
has_terminals prim.Not outs ins = nat_le 1 outs && ins == 1
has_terminals kind outs ins = outs == 1 && nat_le 1 ins

-- a primitive; the grammar gives each kind its terminals, and what has others is no text's
unfoldable pub prim_of : Scope → PrimKind → PrimDecl → Result Item VerFault
prim_of scope kind p =
    each (net_of scope) p.outs >>= λ outs.
    each (wire_of scope) p.ins >>= λ ins.
    if has_terminals kind (length outs) (length ins) then Ok (item.Prim kind p.name outs ins) else Err (fault.Syntax 0)

-- one bit of an assignment
unfoldable pub add_copy : ℕ → List Item → Wire → Wire → Result (List Item) VerFault
add_copy offset found to from = driven offset to >>= λ n. Ok (found ++ item.Copy n from ∷ [])

-- an assignment, bit by bit; the two sides have one width
unfoldable pub add_assign : Scope → List Item → AssignDecl → Result (List Item) VerFault
add_assign scope found a =
    wires_of scope a.target.parts >>= λ to.
    wires_of scope a.value.parts >>= λ from.
    if length to == length from then fold_both (add_copy a.target.offset) found to from else Err (fault.Width a.target.offset)

-- the constant that drives nets of a kind
abbrev pub tied : NetKind → Option Bool
tied net.Wire = None
tied net.Supply0 = Some false
tied net.Supply1 = Some true

-- the bits of a name, each driven by the constant
abbrev pub supplies_of : Scope → Bool → List ℕ → List Item
supplies_of scope bit n = map (λ (to : ℕ). item.Copy to (wire.Const bit)) (numbers (all_bits scope n))

abbrev pub add_nets : Scope → Option Bool → List Item → List (List ℕ) → List Item
add_nets scope None found names = found
add_nets scope (Some bit) found names = found ++ flat_map (supplies_of scope bit) names

unfoldable pub add_prim : Scope → PrimKind → List Item → PrimDecl → Result (List Item) VerFault
add_prim scope kind found p = prim_of scope kind p >>= λ i. Ok (found ++ i ∷ [])

unfoldable pub add_inst : Bool → Scope → Option Scope → List ℕ → List Item → InstDecl → Result (List Item) VerFault
add_inst wide scope inner cell found d = inst_of wide scope inner cell d >>= λ i. Ok (found ++ i ∷ [])

-- the items before it, with those of a statement
unfoldable pub add_item : Hierarchy → Scope → List Item → ItemDecl → Result (List Item) VerFault
add_item h scope found (Ports ports) = Ok found
add_item h scope found (Nets kind range names) = Ok (add_nets scope (tied kind) found names)
add_item h scope found (Assigns list) = fold_ok (add_assign scope) found list
add_item h scope found (Prims kind list) = fold_ok (add_prim scope kind) found list
add_item h scope found (Insts cell list) = fold_ok (add_inst h.wide scope (inner_of h cell) cell) found list
