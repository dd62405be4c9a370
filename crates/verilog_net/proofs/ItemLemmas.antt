-- What the items of a module are like.
use Rattle.std.proofs.Common.{arith, ◌≡◌, ℕ, zero, suc, ◌+◌, ◌≤◌, ◌<◌, ◌==◌, nat_le, Bool, true, false, if◌then◌else◌, List, [], ◌∷◌, ◌++◌, length}
use Rattle.std.proofs.Common.{map, flat_map, All, Option, Some, None, Result, Ok, Err, refl, sym, ap, ◌∙◌, subst, append_assoc, append-nil}
use Rattle.std.proofs.lemmas.List.{map-append}
use Rattle.std.proofs.lemmas.Bool.{leb-true, eqb-true, and_parts}
use Rattle.std.proofs.lemmas.List.Elements.{All-nil, All-cons, All-append, All-push, All-head, All-tail, All-map, All-weaker}
use Rattle.std.specs.List.{range_with_len}
use Rattle.texts.specs.Names.{are_distinct}
use Rattle.texts.specs.Rules.{◌>>=◌}
use Rattle.netlist_types.specs.declared.gates.PrimKind.{PrimKind}
use Rattle.netlist_types.specs.declared.gates.PrimKind.TheVariants as prim
use Rattle.verilog_syntax.specs.declared.declarations.Part.{Part}
use Rattle.verilog_syntax.specs.declared.declarations.Part.TheVariants as part
use Rattle.verilog_syntax.specs.declared.declarations.PartDecl.{PartDecl}
use Rattle.verilog_syntax.specs.declared.declarations.TermDecl.{TermDecl}
use Rattle.verilog_syntax.specs.declared.declarations.ConnDecl.{ConnDecl}
use Rattle.verilog_syntax.specs.declared.declarations.InstDecl.{InstDecl}
use Rattle.verilog_syntax.specs.declared.declarations.PrimDecl.{PrimDecl}
use Rattle.verilog_syntax.specs.declared.declarations.AssignDecl.{AssignDecl}
use Rattle.verilog_syntax.specs.declared.declarations.ItemDecl.{ItemDecl}
use Rattle.verilog_syntax.specs.declared.declarations.ItemDecl.TheVariants.{Ports, Nets, Assigns, Prims, Insts}
use Rattle.verilog_syntax.specs.declared.declarations.ModuleDecl.{ModuleDecl}
use Rattle.netlist_types.specs.declared.faults.VerFault.{VerFault}
use Rattle.netlist_types.specs.declared.faults.VerFault.TheVariants as fault
use Rattle.verilog_scope.specs.declared.ranges.Run.{Run}
use Rattle.verilog_scope.specs.declared.scopes.Scope.{Scope}
use Rattle.verilog_scope.specs.Folds.{fold_ok, fold_both, each, pushing}
use Rattle.verilog_scope.specs.Decls.{with_new}
use Rattle.verilog_scope.specs.Scopes.{net_names, all_bits, run_of, bit_name}
use Rattle.verilog_scope.proofs.KeepLemmas.{step_gave, fold_keeps, fold_keeps_all, both_keeps, each_holds}
use Rattle.verilog_scope.proofs.ScopeLemmas.{IsScope}
use Rattle.verilog_scope.proofs.RunLemmas.{HasPlace, bits_below, run_below}
use Rattle.verilog_scope.proofs.NewLemmas.{new_distinct}
use Rattle.netlist_types.specs.declared.sources.Wire.{Wire}
use Rattle.netlist_types.specs.declared.sources.Wire.TheVariants as wire
use Rattle.netlist_types.specs.declared.sources.Conn.{Conn}
use Rattle.netlist_types.specs.declared.sources.Item.{Item}
use Rattle.netlist_types.specs.declared.sources.Item.TheVariants as item
use Rattle.verilog_net.specs.declared.hierarchies.Hierarchy.{Hierarchy}
use Rattle.verilog_net.specs.Wires.{numbers, nets, constants, with_run, add_part, wires_of, only, driven, wire_of, net_of}
use Rattle.verilog_net.specs.Hierarchies.{inner_of, fits}
use Rattle.verilog_net.specs.Spreads.{bit_conn, bit_conns, spread, add_spread, wide_conns}
use Rattle.verilog_net.specs.Items.{conn_of, plain_conns, conns_of, inst_of, has_terminals, prim_of, add_copy, add_assign, tied, supplies_of, add_nets, add_prim, add_inst, add_item}
use Rattle.netlist_types.specs.Lawful.{IsBelow, IsWireBelow, AreWiresBelow, HasTerminals}

-- the wires of a connection fit its pin
abbrev pub FitsPin : Option Scope → Conn → Type 0
FitsPin inner c = (wires : List Wire) → c.wires ≡ Some wires → fits inner c.pin (length wires) ≡ true

-- connections of different pins, whose wires fit
abbrev pub AreGood : ℕ → Option Scope → List Conn → Type 0
AreGood count inner conns =
    (are_distinct (map (λ (c : Conn). c.pin) conns) ≡ true) × (All (λ (c : Conn). AreWiresBelow count c.wires) conns × All (FitsPin inner) conns)

-- a lawful item, where widths are asked of the modules' scopes
abbrev pub IsGood : Hierarchy → ℕ → Item → Type 0
IsGood h count (item.Inst cell name conns) = AreGood count (inner_of h cell) conns
IsGood h count (item.Prim k name outs ins) = HasTerminals k (length outs) (length ins) × (All (IsBelow count) outs × All (IsWireBelow count) ins)
IsGood h count (item.Copy to from) = (to < count) × IsWireBelow count from

-- numbers of a run that ends below a count
below_range : (count a n : ℕ) → a + n ≤ count → All (IsBelow count) (range_with_len a n)
below_range count a zero within = All-nil (IsBelow count)
below_range count a (suc n) within = All-cons (IsBelow count) a (range_with_len (a + 1) n) (omega arith) (below_range count (a + 1) n (omega arith))

pub numbers_below : (count : ℕ) (r : Run) → r.first + r.count ≤ count → All (IsBelow count) (numbers r)
numbers_below count r within = below_range count r.first r.count within

nets_below : (count : ℕ) (xs : List ℕ) → All (IsBelow count) xs → All (IsWireBelow count) (map (λ (n : ℕ). wire.Net n) xs)
nets_below count xs all = All-map (IsWireBelow count) (λ (n : ℕ). wire.Net n) xs all

constants_below : (count : ℕ) (bits : List Bool) → All (IsWireBelow count) (constants bits)
constants_below count [] = All-nil (IsWireBelow count)
constants_below count (b ∷ bits) = All-cons (IsWireBelow count) (wire.Const b) (constants bits) tt (constants_below count bits)

-- a connection is of the pin that is named, and fits it
conn_cases : (scope : Scope) (inner : Option Scope) (c : ConnDecl) (ws : List Wire) (b : Bool) (why : VerFault) (conn : Conn)
    → fits inner c.pin (length ws) ≡ b → (if b then Ok (record { pin = c.pin; wires = Some ws }) else Err why) ≡ Ok conn
    → (conn.pin ≡ c.pin) × ((conn.wires ≡ Some ws) × (fits inner c.pin (length ws) ≡ true))
conn_cases scope inner c ws true why conn fit e =
    let made : Conn = record { pin = c.pin; wires = Some ws } in
    let same : made ≡ conn = cc in
    (ap (λ (c : Conn). c.pin) (sym same), (ap (λ (c : Conn). c.wires) (sym same), fit))
conn_cases scope inner c ws false why conn fit e = absurd cc

-- the wires of a connection, or none where it is open
abbrev IsConn : ℕ → Option Scope → List ℕ → Conn → Type 0
IsConn count inner pin conn = (conn.pin ≡ pin) × (AreWiresBelow count conn.wires × FitsPin inner conn)

wires_same : (count : ℕ) (inner : Option Scope) (pin : List ℕ) (ws : List Wire) (conn : Conn) → All (IsWireBelow count) ws → conn.pin ≡ pin
    → conn.wires ≡ Some ws
    → fits inner pin (length ws) ≡ true → IsConn count inner pin conn
wires_same count inner pin ws conn below named is fit = (
  named,
  (
    subst (AreWiresBelow count) (sym is) below,
    λ wires there. let same : ws ≡ wires = cc in subst (λ (w : List Wire). fits inner conn.pin (length w) ≡ true) same (rw named fit),
  ),
)

open_same : (count : ℕ) (inner : Option Scope) (pin : List ℕ) (conn : Conn) → conn.pin ≡ pin → conn.wires ≡ None → IsConn count inner pin conn
open_same count inner pin conn named is = (named, (subst (AreWiresBelow count) (sym is) tt, λ wires there. absurd cc))

-- a connection of one bit, as one of a cell has to be
abbrev IsBitConn : ℕ → Conn → Type 0
IsBitConn count c = AreWiresBelow count c.wires × FitsPin None c

one_wire : (pin : List ℕ) (ws : List Wire) → (length ws == 1) ≡ true → FitsPin None (record { pin = pin; wires = Some ws })
one_wire pin ws one = λ wires there. let same : ws ≡ wires = cc in subst (λ (l : List Wire). (length l == 1) ≡ true) same one

open_conn : (count : ℕ) (pin : List ℕ) → IsBitConn count (record { pin = pin; wires = None })
open_conn count pin = (tt, λ wires there. absurd cc)

bits_good : (count : ℕ) (pin : List ℕ) (ws : List Wire) → All (IsWireBelow count) ws → All (IsBitConn count) (bit_conns pin ws)
unfolding bit_conns
bits_good count pin [] below = All-nil (IsBitConn count)
bits_good count pin (w ∷ ws) below =
    All-cons (IsBitConn count) (bit_conn pin (length ws) w) (bit_conns pin ws) (
      All-cons (IsWireBelow count) w [] (All-head (IsWireBelow count) w ws below) (All-nil (IsWireBelow count)),
      one_wire (bit_name pin (length ws)) (w ∷ []) refl,
    )
    (bits_good count pin ws (All-tail (IsWireBelow count) w ws below))

-- each connection that one of any width is has one bit
spread_good : (count : ℕ) (pin : List ℕ) (ws : List Wire) (one : Bool) → (length ws == 1) ≡ one → All (IsWireBelow count) ws
    → All (IsBitConn count) (if one then record { pin = pin; wires = Some ws } ∷ [] else bit_conns pin ws)
spread_good count pin ws true is below =
    All-cons (IsBitConn count) (record { pin = pin; wires = Some ws }) [] (below, one_wire pin ws is) (All-nil (IsBitConn count))
spread_good count pin ws false is below = bits_good count pin ws below

pushed_pins : (found : List Conn) (conn : Conn) (pin : List ℕ) (pins : List (List ℕ)) → map (λ (c : Conn). c.pin) found ≡ pins → conn.pin ≡ pin
    → map (λ (c : Conn). c.pin) (found ++ conn ∷ []) ≡ pins ++ pin ∷ []
pushed_pins found conn pin pins same named =
    map-append (λ (c : Conn). c.pin) found (conn ∷ []) ∙ ap (λ (l : List (List ℕ)). l ++ conn.pin ∷ []) same ∙ ap (λ (p : List ℕ). pins ++ p ∷ []) named

-- a primitive of its kind has its terminals
terminals : (k : PrimKind) (outs ins : ℕ) → has_terminals k outs ins ≡ true → HasTerminals k outs ins
terminals prim.Buf outs ins e = let (some, one) = and_parts (nat_le 1 outs) (ins == 1) e in (leb-true 1 outs some, eqb-true ins 1 one)
terminals prim.Not outs ins e = let (some, one) = and_parts (nat_le 1 outs) (ins == 1) e in (leb-true 1 outs some, eqb-true ins 1 one)
terminals prim.And outs ins e = let (one, some) = and_parts (outs == 1) (nat_le 1 ins) e in (eqb-true outs 1 one, leb-true 1 ins some)
terminals prim.Nand outs ins e = let (one, some) = and_parts (outs == 1) (nat_le 1 ins) e in (eqb-true outs 1 one, leb-true 1 ins some)
terminals prim.Or outs ins e = let (one, some) = and_parts (outs == 1) (nat_le 1 ins) e in (eqb-true outs 1 one, leb-true 1 ins some)
terminals prim.Nor outs ins e = let (one, some) = and_parts (outs == 1) (nat_le 1 ins) e in (eqb-true outs 1 one, leb-true 1 ins some)
terminals prim.Xor outs ins e = let (one, some) = and_parts (outs == 1) (nat_le 1 ins) e in (eqb-true outs 1 one, leb-true 1 ins some)
terminals prim.Xnor outs ins e = let (one, some) = and_parts (outs == 1) (nat_le 1 ins) e in (eqb-true outs 1 one, leb-true 1 ins some)

-- the one wire of a list is one of it
only_one : (P : Wire → Type 0) (offset : ℕ) (ws : List Wire) (w : Wire) → All P ws → only offset ws ≡ Ok w → P w
only_one P offset [] w all e = absurd cc
only_one P offset (v ∷ []) w all e = let same : v ≡ w = cc in subst P same (All-head P v [] all)
only_one P offset (u ∷ v ∷ ws) w all e = absurd cc

driven_below : (count offset : ℕ) (w : Wire) (n : ℕ) → IsWireBelow count w → driven offset w ≡ Ok n → n < count
driven_below count offset (wire.Const b) n below e = absurd cc
driven_below count offset (wire.Net k) n below e = let same : k ≡ n = cc in subst (λ (n : ℕ). n < count) same below

module _ (h : Hierarchy) (m : ModuleDecl) (s : Scope) (made : IsScope m s) where
  abbrev count : ℕ
  count = length (net_names s)

  run_case : (offset : ℕ) (found : List Wire) (r : Option Run) (next : List Wire) → ((run : Run) → r ≡ Some run → run.first + run.count ≤ count)
      → All (IsWireBelow count) found → with_run offset found r ≡ Ok next → All (IsWireBelow count) next
  run_case offset found None next within all e = absurd cc
  run_case offset found (Some run) next within all e =
      let same : found ++ nets run ≡ next = cc in
      subst (All (IsWireBelow count)) same
      (All-append (IsWireBelow count) found (nets run) all (nets_below count (numbers run) (numbers_below count run (within run refl))))

  part_case : (offset : ℕ) (p : Part) (found next : List Wire) → All (IsWireBelow count) found
      → ◌≡◌ {A = Result (List Wire) VerFault}
      (elim p [ part.Bits bits ↦ Ok (found ++ constants bits) | part.Net name select ↦ with_run offset found (run_of s name select) ]) (Ok next)
      → All (IsWireBelow count) next
  part_case offset (part.Bits bits) found next all e =
      let same : found ++ constants bits ≡ next = cc in
      subst (All (IsWireBelow count)) same (All-append (IsWireBelow count) found (constants bits) all (constants_below count bits))
  part_case offset (part.Net name select) found next all e =
      run_case offset found (run_of s name select) next (λ run is. run_below m s made name select run is) all e

  part_below : (found : List Wire) (p : PartDecl) (next : List Wire) → All (IsWireBelow count) found → add_part s found p ≡ Ok next
      → All (IsWireBelow count) next
  unfolding add_part
  part_below found p next all e = part_case p.offset p.part found next all e

  -- the wires of an expression are constants and nets of the module
  wires_below : (parts : List PartDecl) (ws : List Wire) → wires_of s parts ≡ Ok ws → All (IsWireBelow count) ws
  wires_below parts ws e = fold_keeps (All (IsWireBelow count)) (add_part s) part_below [] parts ws (All-nil (IsWireBelow count)) e

  wire_below : (t : TermDecl) (w : Wire) → wire_of s t ≡ Ok w → IsWireBelow count w
  unfolding wire_of
  wire_below t w e =
      let (ws, wires, one) = step_gave (wires_of s t.parts) _ w e in
      only_one (IsWireBelow count) t.offset ws w (wires_below t.parts ws wires) one

  net_below : (t : TermDecl) (n : ℕ) → net_of s t ≡ Ok n → IsBelow count n
  unfolding net_of
  net_below t n e = let (w, is, net) = step_gave (wire_of s t) _ n e in driven_below count t.offset w n (wire_below t w is) net

  conn_case : (inner : Option Scope) (c : ConnDecl) (parts : Option (List PartDecl)) (conn : Conn) → ◌≡◌ {A = Result Conn VerFault} (elim parts [
    | None ↦ Ok (record { pin = c.pin; wires = None })
    | Some parts ↦ wires_of s parts >>= λ ws. if fits inner c.pin (length ws) then Ok (record { pin = c.pin; wires = Some ws }) else Err (fault.Width c.offset)
  ]) (Ok conn) → IsConn count inner c.pin conn
  conn_case inner c None conn e =
      let opened : Conn = record { pin = c.pin; wires = None } in
      let same : opened ≡ conn = cc in
      open_same count inner c.pin conn (ap (λ (c : Conn). c.pin) (sym same)) (ap (λ (c : Conn). c.wires) (sym same))
  conn_case inner c (Some parts) conn e =
      let (ws, wires, rest) = step_gave (wires_of s parts) _ conn e in
      let (named, (is, fit)) = conn_cases s inner c ws (fits inner c.pin (length ws)) (fault.Width c.offset) conn refl rest in
      wires_same count inner c.pin ws conn (wires_below parts ws wires) named is fit

  conn_good : (inner : Option Scope) (c : ConnDecl) (conn : Conn) → conn_of s inner c ≡ Ok conn → IsConn count inner c.pin conn
  unfolding conn_of
  conn_good inner c conn e = conn_case inner c c.parts conn e

  pins_kept : (inner : Option Scope) (found : List Conn) (pins : List (List ℕ)) (cs : List ConnDecl) (last : List Conn)
      → map (λ (c : Conn). c.pin) found ≡ pins → fold_ok (pushing (conn_of s inner)) found cs ≡ Ok last
      → map (λ (c : Conn). c.pin) last ≡ pins ++ map (λ (c : ConnDecl). c.pin) cs
  unfolding fold_ok
  pins_kept inner found pins [] last named e =
      let same : found ≡ last = cc in ap (map (λ (c : Conn). c.pin)) (sym same) ∙ named ∙ sym (append-nil pins)
  pins_kept inner found pins (c ∷ cs) last named e =
      let (next, one, rest) = step_gave (pushing (conn_of s inner) found c) _ last e in
      let (conn, gives, made) = step_gave (conn_of s inner c) _ next one in
      let same : found ++ conn ∷ [] ≡ next = cc in
      let pin = conn_good inner c conn gives in
      let more = ap (map (λ (c : Conn). c.pin)) (sym same) ∙ pushed_pins found conn c.pin pins named pin.0 in
      pins_kept inner next (pins ++ c.pin ∷ []) cs last more rest ∙ append_assoc pins (c.pin ∷ []) (map (λ (c : ConnDecl). c.pin) cs)

  plain_good : (inner : Option Scope) (cs : List ConnDecl) (conns : List Conn) → plain_conns s inner cs ≡ Ok conns → AreGood count inner conns
  unfolding plain_conns
  plain_good inner cs conns e =
      let (pins, differ, found) = step_gave (fold_ok with_new [] (map (λ (c : ConnDecl). c.pin) cs)) _ conns e in
      let (is, distinct) = new_distinct (map (λ (c : ConnDecl). c.pin) cs) pins differ in
      let named = pins_kept inner [] [] cs conns refl found in (
        rw named distinct,
        (
          each_holds (λ (c : Conn). AreWiresBelow count c.wires) (conn_of s inner) (λ c conn gives. let g = conn_good inner c conn gives in g.1.0) cs conns
              found,
          each_holds (FitsPin inner) (conn_of s inner) (λ c conn gives. let g = conn_good inner c conn gives in g.1.1) cs conns found,
        ),
      )

  spread_case : (found : List Conn) (pin : List ℕ) (parts : Option (List PartDecl)) (next : List Conn) → All (IsBitConn count) found
      → ◌≡◌ {A = Result (List Conn) VerFault} (elim parts [
        | None ↦ Ok (found ++ record { pin = pin; wires = None } ∷ [])
        | Some parts ↦ wires_of s parts >>= λ ws. Ok (found ++ spread pin ws)
      ]) (Ok next) → All (IsBitConn count) next
  spread_case found pin None next all e =
      let opened : Conn = record { pin = pin; wires = None } in
      let same : found ++ opened ∷ [] ≡ next = cc in
      subst (All (IsBitConn count)) same (All-push (IsBitConn count) found opened all (open_conn count pin))
  spread_case found pin (Some parts) next all e =
      let (ws, wires, made) = step_gave (wires_of s parts) _ next e in
      let same : found ++ spread pin ws ≡ next = cc in
      subst (All (IsBitConn count)) same
      (All-append (IsBitConn count) found (spread pin ws) all (spread_good count pin ws (length ws == 1) refl (wires_below parts ws wires)))

  spread_keeps : (found : List Conn) (c : ConnDecl) (next : List Conn) → All (IsBitConn count) found → add_spread s found c ≡ Ok next
      → All (IsBitConn count) next
  unfolding add_spread
  spread_keeps found c next all e = spread_case found c.pin c.parts next all e

  wide_good : (cs : List ConnDecl) (conns : List Conn) → wide_conns s cs ≡ Ok conns → AreGood count None conns
  unfolding wide_conns
  wide_good cs conns e =
      let (made, spreads, e1) = step_gave (fold_ok (add_spread s) [] cs) _ conns e in
      let (pins, differ, e2) = step_gave (fold_ok with_new [] (map (λ (c : Conn). c.pin) made)) _ conns e1 in
      let same : made ≡ conns = cc in
      let (is, distinct) = new_distinct (map (λ (c : Conn). c.pin) made) pins differ in
      let all = fold_keeps (All (IsBitConn count)) (add_spread s) spread_keeps [] cs made (All-nil (IsBitConn count)) spreads in
      subst (AreGood count None) same (
        distinct,
        (
          All-weaker (IsBitConn count) (λ (c : Conn). AreWiresBelow count c.wires) (λ c is. is.0) made all,
          All-weaker (IsBitConn count) (FitsPin None) (λ c is. is.1) made all,
        ),
      )

  conns_good : (wide : Bool) (inner : Option Scope) (cs : List ConnDecl) (conns : List Conn) → conns_of wide s inner cs ≡ Ok conns
      → AreGood count inner conns
  conns_good true None cs conns e = wide_good cs conns e
  conns_good true (Some found) cs conns e = plain_good (Some found) cs conns e
  conns_good false inner cs conns e = plain_good inner cs conns e

  inst_good : (cell : List ℕ) (i : InstDecl) (x : Item) → inst_of h.wide s (inner_of h cell) cell i ≡ Ok x → IsGood h count x
  unfolding inst_of
  inst_good cell i x e =
      let (conns, found, made) = step_gave (conns_of h.wide s (inner_of h cell) i.conns) _ x e in
      let same : item.Inst cell i.name conns ≡ x = cc in
      subst (IsGood h count) same (conns_good h.wide (inner_of h cell) i.conns conns found)

  prim_case : (kind : PrimKind) (p : PrimDecl) (outs : List ℕ) (ins : List Wire) (b : Bool) (why : VerFault) (x : Item)
      → All (IsBelow count) outs → All (IsWireBelow count) ins → has_terminals kind (length outs) (length ins) ≡ b
      → (if b then Ok (item.Prim kind p.name outs ins) else Err why) ≡ Ok x → IsGood h count x
  prim_case kind p outs ins true why x drives reads has e =
      let same : item.Prim kind p.name outs ins ≡ x = cc in
      subst (IsGood h count) same (terminals kind (length outs) (length ins) has, (drives, reads))
  prim_case kind p outs ins false why x drives reads has e = absurd cc

  prim_good : (kind : PrimKind) (p : PrimDecl) (x : Item) → prim_of s kind p ≡ Ok x → IsGood h count x
  unfolding prim_of
  prim_good kind p x e =
      let (outs, drives, e1) = step_gave (each (net_of s) p.outs) _ x e in
      let (ins, reads, e2) = step_gave (each (wire_of s) p.ins) _ x e1 in
      prim_case kind p outs ins (has_terminals kind (length outs) (length ins)) (fault.Syntax 0) x
      (each_holds (IsBelow count) (net_of s) net_below p.outs outs drives) (each_holds (IsWireBelow count) (wire_of s) wire_below p.ins ins reads) refl e2

  abbrev Good : List Item → Type 0
  Good items = All (IsGood h count) items

  copy_good : (offset : ℕ) (found : List Item) (to from : Wire) (next : List Item) → IsWireBelow count to → IsWireBelow count from → Good found
      → add_copy offset found to from ≡ Ok next → Good next
  unfolding add_copy
  copy_good offset found to from next low reads good e =
      let (n, net, made) = step_gave (driven offset to) _ next e in
      let same : found ++ item.Copy n from ∷ [] ≡ next = cc in
      subst Good same (All-push (IsGood h count) found (item.Copy n from) good (driven_below count offset to n low net, reads))

  assign_case : (offset : ℕ) (found : List Item) (to from : List Wire) (b : Bool) (why : VerFault) (next : List Item) → All (IsWireBelow count) to
      → All (IsWireBelow count) from → Good found → (if b then fold_both (add_copy offset) found to from else Err why) ≡ Ok next → Good next
  assign_case offset found to from true why next low reads good e =
      both_keeps (IsWireBelow count) (IsWireBelow count) Good (add_copy offset) (copy_good offset) found to from next low reads good e
  assign_case offset found to from false why next low reads good e = absurd cc

  assign_good : (found : List Item) (a : AssignDecl) (next : List Item) → Good found → add_assign s found a ≡ Ok next → Good next
  unfolding add_assign
  assign_good found a next good e =
      let (to, targets, e1) = step_gave (wires_of s a.target.parts) _ next e in
      let (from, values, e2) = step_gave (wires_of s a.value.parts) _ next e1 in
      assign_case a.target.offset found to from (length to == length from) (fault.Width a.target.offset) next (wires_below a.target.parts to targets)
      (wires_below a.value.parts from values) good e2

  added_prim : (kind : PrimKind) (found : List Item) (p : PrimDecl) (next : List Item) → Good found → add_prim s kind found p ≡ Ok next → Good next
  unfolding add_prim
  added_prim kind found p next good e =
      let (x, gives, made) = step_gave (prim_of s kind p) _ next e in
      let same : found ++ x ∷ [] ≡ next = cc in
      subst Good same (All-push (IsGood h count) found x good (prim_good kind p x gives))

  added_inst : (cell : List ℕ) (found : List Item) (i : InstDecl) (next : List Item) → Good found
      → add_inst h.wide s (inner_of h cell) cell found i ≡ Ok next → Good next
  unfolding add_inst
  added_inst cell found i next good e =
      let (x, gives, made) = step_gave (inst_of h.wide s (inner_of h cell) cell i) _ next e in
      let same : found ++ x ∷ [] ≡ next = cc in
      subst Good same (All-push (IsGood h count) found x good (inst_good cell i x gives))

  supply_good : (bit : Bool) (n : List ℕ) → HasPlace s n → Good (supplies_of s bit n)
  supply_good bit n place =
      All-map (IsGood h count) (λ (to : ℕ). item.Copy to (wire.Const bit)) (numbers (all_bits s n))
      (All-weaker (IsBelow count) (λ (to : ℕ). IsGood h count (item.Copy to (wire.Const bit))) (λ to below. (below, tt)) (numbers (all_bits s n))
      (numbers_below count (all_bits s n) (bits_below m s made n place)))

  supplies_good : (bit : Bool) (names : List (List ℕ)) → All (HasPlace s) names → Good (flat_map (supplies_of s bit) names)
  supplies_good bit [] all = All-nil (IsGood h count)
  supplies_good bit (n ∷ names) all =
      All-append (IsGood h count) (supplies_of s bit n) (flat_map (supplies_of s bit) names) (supply_good bit n (All-head (HasPlace s) n names all))
      (supplies_good bit names (All-tail (HasPlace s) n names all))

  nets_good : (tie : Option Bool) (found : List Item) (names : List (List ℕ)) → All (HasPlace s) names → Good found → Good (add_nets s tie found names)
  nets_good None found names all good = good
  nets_good (Some bit) found names all good =
      All-append (IsGood h count) found (flat_map (supplies_of s bit) names) good (supplies_good bit names all)

  -- the names that an item declares as nets have places
  abbrev pub Places : ItemDecl → Type 0
  Places (Nets kind range names) = All (HasPlace s) names
  Places (Ports ports) = Unit {0}
  Places (Assigns list) = Unit {0}
  Places (Prims kind list) = Unit {0}
  Places (Insts cell list) = Unit {0}

  item_good : (found : List Item) (i : ItemDecl) (next : List Item) → Places i → Good found → add_item h s found i ≡ Ok next → Good next
  unfolding add_item
  item_good found (Ports ports) next places good e = let same : found ≡ next = cc in subst Good same good
  item_good found (Nets kind range names) next places good e =
      let same : add_nets s (tied kind) found names ≡ next = cc in subst Good same (nets_good (tied kind) found names places good)
  item_good found (Assigns list) next places good e = fold_keeps Good (add_assign s) assign_good found list next good e
  item_good found (Prims kind list) next places good e = fold_keeps Good (add_prim s kind) (added_prim kind) found list next good e
  item_good found (Insts cell list) next places good e =
      fold_keeps Good (add_inst h.wide s (inner_of h cell) cell) (added_inst cell) found list next good e

  -- the items of a module are lawful
  pub items_good : (items : List ItemDecl) (last : List Item) → All Places items → fold_ok (add_item h s) [] items ≡ Ok last → Good last
  items_good items last places e = fold_keeps_all Places Good (add_item h s) item_good [] items last places (All-nil (IsGood h count)) e
