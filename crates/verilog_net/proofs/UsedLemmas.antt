-- A module with its used nets alone: its numbers are numbers of nets, and a lawful source stays lawful.
use Rattle.std.proofs.Common.{arith, ◌≡◌, ℕ, zero, suc, ◌+◌, ◌≤◌, ◌<◌, Bool, true, false, ◌||◌, List, [], ◌∷◌, ◌++◌, length, get_or, map, nat_eq, All}
use Rattle.std.proofs.Common.{Option, Some, None, if◌then◌else◌, ◌⊎◌, inl, inr, find, refl, sym, ap, ◌∙◌, subst, add-one, add_comm}
use Rattle.std.specs.Prelude.{filter, flat_map, Contains}
use Rattle.std.specs.List.{IsDistinct, AllByRecursion, range_with_len}
use Rattle.std.specs.Str.{bytes_eq}
use Rattle.std.proofs.lemmas.Bool.{cases_lt, eq-eqb, ne_eqb, eqb-true, eqb-false}
use Rattle.std.proofs.lemmas.List.{length-map, get_or-map, map-append}
use Rattle.std.proofs.lemmas.List.Elements.{All-nil, All-cons, All-head, All-tail, All-append, All-map, All-weaker, Contains-get_or}
use Rattle.std.proofs.lemmas.List.Folds.{list_any-append}
use Rattle.netlist_types.specs.declared.gates.PrimKind.{PrimKind}
use Rattle.netlist_types.specs.declared.sources.Wire.{Wire}
use Rattle.netlist_types.specs.declared.sources.Wire.TheVariants as wire
use Rattle.netlist_types.specs.declared.sources.Conn.{Conn}
use Rattle.netlist_types.specs.declared.sources.Item.{Item}
use Rattle.netlist_types.specs.declared.sources.Item.TheVariants as item
use Rattle.netlist_types.specs.declared.sources.Port.{Port}
use Rattle.netlist_types.specs.declared.sources.Module.{Module}
use Rattle.netlist_types.specs.declared.sources.Source.{Source}
use Rattle.netlist_types.specs.Lawful.{module_of, IsBelow, IsWireBelow, AreWiresBelow, HasTerminals, HasWidths, IsLawfulItem, IsLawfulModule, IsLawful}
use Rattle.verilog_net.specs.Uses.{wire_nets, nets_of_wires, conn_nets, item_nets, port_nets, standing_nets, is_in, those_in, number_in, used_nets}
use Rattle.verilog_net.specs.Uses.{numbered_wire, numbered_wires, numbered_if_any, numbered_conn, numbered_item, numbered_port, with_used_nets}

or_left : (b c : Bool) → b ≡ true → (b || c) ≡ true
or_left b c e = rw e refl

or_right : (b c : Bool) → c ≡ true → (b || c) ≡ true
or_right true c e = refl
or_right false c e = e

not_both : {A : Type 0} (b : Bool) → b ≡ false → b ≡ true → A
not_both b first second = absurd cc

wire_below : (count : ℕ) (w : Wire) → IsWireBelow count w → All (IsBelow count) (wire_nets w)
wire_below count (wire.Const b) below = All-nil (IsBelow count)
wire_below count (wire.Net n) below = All-cons (IsBelow count) n [] below (All-nil (IsBelow count))

wires_below : (count : ℕ) (ws : List Wire) → All (IsWireBelow count) ws → All (IsBelow count) (nets_of_wires ws)
wires_below count [] below = All-nil (IsBelow count)
wires_below count (w ∷ ws) below =
    All-append (IsBelow count) (wire_nets w) (nets_of_wires ws) (wire_below count w (All-head (IsWireBelow count) w ws below))
    (wires_below count ws (All-tail (IsWireBelow count) w ws below))

pin_below : (count : ℕ) (wires : Option (List Wire)) → AreWiresBelow count wires
    → All (IsBelow count) (elim wires [ None ↦ [] | Some ws ↦ nets_of_wires ws ])
pin_below count None below = All-nil (IsBelow count)
pin_below count (Some ws) below = wires_below count ws below

abbrev IsPinBelow : ℕ → Conn → Type 0
IsPinBelow count c = AreWiresBelow count c.wires

conns_below : (count : ℕ) (cs : List Conn) → All (IsPinBelow count) cs → All (IsBelow count) (flat_map conn_nets cs)
conns_below count [] below = All-nil (IsBelow count)
conns_below count (c ∷ cs) below =
    All-append (IsBelow count) (conn_nets c) (flat_map conn_nets cs) (pin_below count c.wires (All-head (IsPinBelow count) c cs below))
    (conns_below count cs (All-tail (IsPinBelow count) c cs below))

-- the wires of an item are constants and nets below a count
abbrev pub IsItemBelow : ℕ → Item → Type 0
IsItemBelow count (item.Inst cell name conns) = All (IsPinBelow count) conns
IsItemBelow count (item.Prim k name outs ins) = All (IsBelow count) outs × All (IsWireBelow count) ins
IsItemBelow count (item.Copy to from) = (to < count) × IsWireBelow count from

item_below : (count : ℕ) (i : Item) → IsItemBelow count i → All (IsBelow count) (item_nets i)
item_below count (item.Inst cell name conns) below = conns_below count conns below
item_below count (item.Prim k name outs ins) below = All-append (IsBelow count) outs (nets_of_wires ins) below.0 (wires_below count ins below.1)
item_below count (item.Copy to from) below = All-cons (IsBelow count) to (wire_nets from) below.0 (wire_below count from below.1)

items_below : (count : ℕ) (is : List Item) → All (IsItemBelow count) is → All (IsBelow count) (flat_map item_nets is)
items_below count [] below = All-nil (IsBelow count)
items_below count (i ∷ is) below =
    All-append (IsBelow count) (item_nets i) (flat_map item_nets is) (item_below count i (All-head (IsItemBelow count) i is below))
    (items_below count is (All-tail (IsItemBelow count) i is below))

-- what stands in ports and items is below the count
pub standing_below : (count : ℕ) (ports : List Port) (items : List Item) → All (IsBelow count) (flat_map port_nets ports) → All (IsItemBelow count) items
    → All (IsBelow count) (standing_nets ports items)
standing_below count ports items bits below =
    All-append (IsBelow count) (flat_map port_nets ports) (flat_map item_nets items) bits (items_below count items below)

below_case : (n u : ℕ) (used : List ℕ) (b : Bool) → nat_eq n u ≡ b → is_in (u ∷ used) n ≡ true → (is_in used n ≡ true → number_in used n < length used)
    → number_in (u ∷ used) n < length (u ∷ used)
below_case n u used true e found rest = rw e (omega arith)
below_case n u used false e found rest = let deep = rest (rw e at found) in rw e (omega arith)

-- a net that is found has a place
number_below : (used : List ℕ) (n : ℕ) → is_in used n ≡ true → number_in used n < length used
number_below [] n found = absurd cc
number_below (u ∷ used) n found = below_case n u used (nat_eq n u) refl found (number_below used n)

stands_case : (n u : ℕ) (used : List ℕ) (b : Bool) → nat_eq n u ≡ b → is_in (u ∷ used) n ≡ true → (is_in used n ≡ true → get_or used (number_in used n) 0 ≡ n)
    → get_or (u ∷ used) (number_in (u ∷ used) n) 0 ≡ n
stands_case n u used true e found rest = rw e (sym (eqb-true n u e))
stands_case n u used false e found rest = let deep = rest (rw e at found) in rw (e, add_comm, add-one) deep

-- and stands there
stands : (used : List ℕ) (n : ℕ) → is_in used n ≡ true → get_or used (number_in used n) 0 ≡ n
stands [] n found = absurd cc
stands (u ∷ used) n found = stands_case n u used (nat_eq n u) refl found (stands used n)

-- two nets that have a number have two
numbers_differ : (used : List ℕ) (n k : ℕ) → is_in used n ≡ true → is_in used k ≡ true → number_in used n ≡ number_in used k → n ≡ k
numbers_differ used n k one two same = sym (stands used n one) ∙ ap (λ (i : ℕ). get_or used i 0) same ∙ stands used k two

kept_case : (p : ℕ → Bool) (a y : ℕ) (rest : List ℕ) (b : Bool) → p a ≡ b → (y ≡ a → p a ≡ true) → is_in rest y ≡ true ⊎ (y ≡ a)
    → is_in (if b then a ∷ rest else rest) y ≡ true
kept_case p a y rest true e passes (inl found) = or_right (nat_eq y a) (is_in rest y) found
kept_case p a y rest true e passes (inr same) = rw (eq-eqb y a same) refl
kept_case p a y rest false e passes (inl found) = found
kept_case p a y rest false e passes (inr same) = absurd (not_both (p a) e (passes same))

-- a number of a range that passes is found among those that do
kept : (p : ℕ → Bool) (n a y : ℕ) → a ≤ y → y < a + n → p y ≡ true → is_in (filter p (range_with_len a n)) y ≡ true
kept p zero a y least below passes = absurd (omega arith)
kept p (suc n) a y least below passes = elim (cases_lt a y) [
  | inl less ↦ kept_case p a y (filter p (range_with_len (a + 1) n)) (p a) refl (λ same. absurd (omega arith))
      (inl (kept p n (a + 1) y (omega arith) (omega arith) passes))
  | inr upto ↦
      let same : y ≡ a = omega arith in
      kept_case p a y (filter p (range_with_len (a + 1) n)) (p a) refl (λ is. ap p (sym is) ∙ passes) (inr same)
]

-- each number of one list is found in another
abbrev IsPart : List ℕ → List ℕ → Type 0
IsPart all xs = (n : ℕ) → is_in xs n ≡ true → is_in all n ≡ true

part_left : (all xs ys : List ℕ) → IsPart all (xs ++ ys) → IsPart all xs
part_left all xs ys part n found = part n (list_any-append (nat_eq n) xs ys ∙ or_left (is_in xs n) (is_in ys n) found)

part_right : (all xs ys : List ℕ) → IsPart all (xs ++ ys) → IsPart all ys
part_right all xs ys part n found = part n (list_any-append (nat_eq n) xs ys ∙ or_right (is_in xs n) (is_in ys n) found)

part_head : (all : List ℕ) (n : ℕ) (ns : List ℕ) → IsPart all (n ∷ ns) → is_in all n ≡ true
part_head all n ns part = part n (or_left (nat_eq n n) (is_in ns n) (eq-eqb n n refl))

part_tail : (all : List ℕ) (n : ℕ) (ns : List ℕ) → IsPart all (n ∷ ns) → IsPart all ns
part_tail all n ns part k found = part k (or_right (nat_eq k n) (is_in ns k) found)

-- the nets below a count that stand somewhere, by their numbers
module _ (all : List ℕ) (count : ℕ) where
  abbrev those : List ℕ
  those = those_in all count

  abbrev few : ℕ
  few = length those

  has : (n : ℕ) → n < count → is_in all n ≡ true → is_in those n ≡ true
  has n below found = kept (is_in all) count 0 n (omega arith) (omega arith) found

  net_small : (n : ℕ) → n < count → is_in all n ≡ true → number_in those n < few
  net_small n below found = number_below those n (has n below found)

  nets_small : (ns : List ℕ) → All (IsBelow count) ns → IsPart all ns → All (IsBelow few) (map (number_in those) ns)
  nets_small [] below part = All-nil (IsBelow few)
  nets_small (n ∷ ns) below part =
      All-cons (IsBelow few) (number_in those n) (map (number_in those) ns) (net_small n (All-head (IsBelow count) n ns below) (part_head all n ns part))
      (nets_small ns (All-tail (IsBelow count) n ns below) (part_tail all n ns part))

  wire_small : (w : Wire) → IsWireBelow count w → IsPart all (wire_nets w) → IsWireBelow few (numbered_wire those w)
  wire_small (wire.Const b) below part = tt
  wire_small (wire.Net n) below part = net_small n below (part_head all n [] part)

  wires_small : (ws : List Wire) → All (IsWireBelow count) ws → IsPart all (nets_of_wires ws) → All (IsWireBelow few) (numbered_wires those ws)
  wires_small [] below part = All-nil (IsWireBelow few)
  wires_small (w ∷ ws) below part =
      All-cons (IsWireBelow few) (numbered_wire those w) (numbered_wires those ws)
      (wire_small w (All-head (IsWireBelow count) w ws below) (part_left all (wire_nets w) (nets_of_wires ws) part))
      (wires_small ws (All-tail (IsWireBelow count) w ws below) (part_right all (wire_nets w) (nets_of_wires ws) part))

  pin_small : (wires : Option (List Wire)) → AreWiresBelow count wires → IsPart all (elim wires [ None ↦ [] | Some ws ↦ nets_of_wires ws ])
      → AreWiresBelow few (numbered_if_any those wires)
  pin_small None below part = tt
  pin_small (Some ws) below part = wires_small ws below part

  conns_small : (cs : List Conn) → All (IsPinBelow count) cs → IsPart all (flat_map conn_nets cs) → All (IsPinBelow few) (map (numbered_conn those) cs)
  conns_small [] below part = All-nil (IsPinBelow few)
  conns_small (c ∷ cs) below part =
      All-cons (IsPinBelow few) (numbered_conn those c) (map (numbered_conn those) cs)
      (pin_small c.wires (All-head (IsPinBelow count) c cs below) (part_left all (conn_nets c) (flat_map conn_nets cs) part))
      (conns_small cs (All-tail (IsPinBelow count) c cs below) (part_right all (conn_nets c) (flat_map conn_nets cs) part))

  -- numbers that differ
  off : (n : ℕ) (ns : List ℕ) → n < count → is_in all n ≡ true → All (IsBelow count) ns → IsPart all ns → AllByRecursion (λ k. nat_eq n k ≡ false) ns
      → AllByRecursion (λ k. nat_eq (number_in those n) k ≡ false) (map (number_in those) ns)
  off n [] low found below part differ = tt
  off n (k ∷ ns) low found below part differ = (
    ne_eqb (number_in those n) (number_in those k)
        (λ same. eqb-false n k differ.0
        (numbers_differ those n k (has n low found) (has k (All-head (IsBelow count) k ns below) (part_head all k ns part)) same)),
    off n ns low found (All-tail (IsBelow count) k ns below) (part_tail all k ns part) differ.1,
  )

  still_differ : (ns : List ℕ) → All (IsBelow count) ns → IsPart all ns → IsDistinct nat_eq ns → IsDistinct nat_eq (map (number_in those) ns)
  unfolding IsDistinct
  still_differ [] below part differ = tt
  still_differ (n ∷ ns) below part differ = (
    off n ns (All-head (IsBelow count) n ns below) (part_head all n ns part) (All-tail (IsBelow count) n ns below) (part_tail all n ns part) differ.0,
    still_differ ns (All-tail (IsBelow count) n ns below) (part_tail all n ns part) differ.1,
  )

-- the bits of ports by numbers
bits_numbered : (used : List ℕ) (ps : List Port) → flat_map port_nets (map (numbered_port used) ps) ≡ map (number_in used) (flat_map port_nets ps)
bits_numbered used [] = refl
bits_numbered used (p ∷ ps) =
    ap (λ (l : List ℕ). map (number_in used) p.bits ++ l) (bits_numbered used ps) ∙ sym (map-append (number_in used) p.bits (flat_map port_nets ps))

abbrev port_name : Port → List ℕ
port_name p = p.name

abbrev pin_name : Conn → List ℕ
pin_name c = c.pin

abbrev module_name : Module → List ℕ
module_name m = m.name

ports_named : (used : List ℕ) (ps : List Port) → map port_name (map (numbered_port used) ps) ≡ map port_name ps
ports_named used [] = refl
ports_named used (p ∷ ps) = ap (λ (l : List (List ℕ)). p.name ∷ l) (ports_named used ps)

pins_named : (used : List ℕ) (cs : List Conn) → map pin_name (map (numbered_conn used) cs) ≡ map pin_name cs
pins_named used [] = refl
pins_named used (c ∷ cs) = ap (λ (l : List (List ℕ)). c.pin ∷ l) (pins_named used cs)

named : (m : Module) → (with_used_nets m).name ≡ m.name
unfolding with_used_nets
named m = refl

all_named : (ms : List Module) → map module_name (map with_used_nets ms) ≡ map module_name ms
all_named [] = refl
all_named (m ∷ ms) = ap (λ (n : List ℕ). n ∷ map module_name (map with_used_nets ms)) (named m) ∙ ap (λ (l : List (List ℕ)). m.name ∷ l) (all_named ms)

-- a port by numbers is that of a port
port_from : (used : List ℕ) (ps : List Port) (q : Port) → Contains (map (numbered_port used) ps) q → (p : Port) × Contains ps p × (q ≡ numbered_port used p)
port_from used ps q has_it =
    let (k, low, is) = has_it in
    let d : Port = q in
    let here : k < length ps = omega (arith, length-map ps (numbered_port used)) in
    (get_or ps k d, Contains-get_or ps k d here, sym is ∙ get_or-map (numbered_port used) ps k d q here)

-- the wires of a pin by numbers are as many
wires_from : (used : List ℕ) (wires : Option (List Wire)) (ws : List Wire) → numbered_if_any used wires ≡ Some ws
    → (vs : List Wire) × (wires ≡ Some vs) × (length ws ≡ length vs)
wires_from used None ws e = absurd cc
wires_from used (Some vs) ws e =
    let same : numbered_wires used vs ≡ ws = cc in
    (vs, refl, ap length (sym same) ∙ length-map vs (numbered_wire used))

abbrev mapped : Option Module → Option Module
mapped None = None
mapped (Some m) = Some (with_used_nets m)

found_case : (name : List ℕ) (m : Module) (rest : Option Module) (b : Bool) → bytes_eq m.name name ≡ b
    → (if bytes_eq (with_used_nets m).name name then Some (with_used_nets m) else mapped rest) ≡ mapped (if bytes_eq m.name name then Some m else rest)
unfolding with_used_nets
found_case name m rest true e = rw (named m, e) refl
found_case name m rest false e = rw (named m, e) refl

found_mapped : (name : List ℕ) (ms : List Module) → find (λ (m : Module). bytes_eq m.name name) (map with_used_nets ms)
    ≡ mapped (find (λ (m : Module). bytes_eq m.name name) ms)
found_mapped name [] = refl
found_mapped name (m ∷ ms) = rw (found_mapped name ms) (found_case name m (find (λ (m : Module). bytes_eq m.name name) ms) (bytes_eq m.name name) refl)

-- a pin fits what it fitted
abbrev Fits : Option Module → Conn → Type 0
Fits None c = (ws : List Wire) → c.wires ≡ Some ws → length ws ≡ 1
Fits (Some m) c = (ws : List Wire) (p : Port) → c.wires ≡ Some ws → Contains m.ports p → p.name ≡ c.pin → length ws ≡ length p.bits

cell_pin_fits : (used : List ℕ) (c : Conn) → Fits None c → Fits None (numbered_conn used c)
cell_pin_fits used c fits ws e = let (vs, is, long) = wires_from used c.wires ws e in long ∙ fits vs is

port_fits : (used : List ℕ) (m : Module) (c : Conn) → Fits (Some m) c → Fits (Some (with_used_nets m)) (numbered_conn used c)
unfolding with_used_nets
port_fits used m c fits ws p e there same =
    let (vs, is, long) = wires_from used c.wires ws e in
    let (q, in_, from) = port_from (used_nets m) m.ports p there in
    let called : q.name ≡ c.pin = ap (λ (p : Port). p.name) (sym from) ∙ same in
    let wide : length p.bits ≡ length q.bits = ap (λ (p : Port). length p.bits) from ∙ length-map q.bits (number_in (used_nets m)) in
    long ∙ fits vs q is in_ called ∙ sym wide

has_widths : (used : List ℕ) (inner : Option Module) (cs : List Conn) → HasWidths inner cs → HasWidths (mapped inner) (map (numbered_conn used) cs)
has_widths used None cs fit =
    All-map (Fits None) (numbered_conn used) cs (All-weaker (Fits None) (λ (c : Conn). Fits None (numbered_conn used c)) (cell_pin_fits used) cs fit)
has_widths used (Some m) cs fit =
    All-map (Fits (Some (with_used_nets m))) (numbered_conn used) cs
    (All-weaker (Fits (Some m)) (λ (c : Conn). Fits (Some (with_used_nets m)) (numbered_conn used c)) (port_fits used m) cs fit)

terminals : (k : PrimKind) (a b c d : ℕ) → a ≡ c → b ≡ d → HasTerminals k c d → HasTerminals k a b
terminals k a b c d outs ins has_them = rw (outs, ins) has_them

module _ (s : Source) (m : Module) (lawful : IsLawfulModule s m) where
  abbrev t : Source
  t = record { modules = map with_used_nets s.modules }

  abbrev all : List ℕ
  all = standing_nets m.ports m.items

  abbrev count : ℕ
  count = length m.nets

  found : (cell : List ℕ) → module_of t cell ≡ mapped (module_of s cell)
  unfolding module_of
  found cell = found_mapped cell s.modules

  item_lawful : (i : Item) → IsPart all (item_nets i) → IsLawfulItem s count i → IsLawfulItem t (few all count) (numbered_item (used_nets m) i)
  item_lawful (item.Inst cell name conns) part is = (
    subst (IsDistinct bytes_eq) (sym (pins_named (used_nets m) conns)) is.0,
    (
      conns_small all count conns is.1.0 part,
      subst (λ (o : Option Module). HasWidths o (map (numbered_conn (used_nets m)) conns)) (sym (found cell))
          (has_widths (used_nets m) (module_of s cell) conns is.1.1),
    ),
  )
  item_lawful (item.Prim k name outs ins) part is = (
    terminals k (length (map (number_in (used_nets m)) outs)) (length (numbered_wires (used_nets m) ins)) (length outs) (length ins)
        (length-map outs (number_in (used_nets m))) (length-map ins (numbered_wire (used_nets m))) is.0,
    (
      nets_small all count outs is.1.0 (part_left all outs (nets_of_wires ins) part),
      wires_small all count ins is.1.1 (part_right all outs (nets_of_wires ins) part),
    ),
  )
  item_lawful (item.Copy to from) part is = (
    net_small all count to is.0 (part_head all to (wire_nets from) part),
    wire_small all count from is.1 (part_tail all to (wire_nets from) part),
  )

  items_lawful : (is : List Item) → IsPart all (flat_map item_nets is) → All (IsLawfulItem s count) is
      → All (IsLawfulItem t (few all count)) (map (numbered_item (used_nets m)) is)
  items_lawful [] part are = All-nil (IsLawfulItem t (few all count))
  items_lawful (i ∷ is) part are =
      All-cons (IsLawfulItem t (few all count)) (numbered_item (used_nets m) i) (map (numbered_item (used_nets m)) is)
      (item_lawful i (part_left all (item_nets i) (flat_map item_nets is) part) (All-head (IsLawfulItem s count) i is are))
      (items_lawful is (part_right all (item_nets i) (flat_map item_nets is) part) (All-tail (IsLawfulItem s count) i is are))

  -- a lawful module stays one
  module_lawful : IsLawfulModule t (with_used_nets m)
  unfolding with_used_nets
  module_lawful =
      let bits = flat_map port_nets m.ports in
      let whole : IsPart all all = λ n is. is in
      let part = part_left all bits (flat_map item_nets m.items) whole in
      let many : length (map (λ (n : ℕ). get_or m.nets n []) (used_nets m)) ≡ few all count = length-map (used_nets m) (λ (n : ℕ). get_or m.nets n []) in
      record {
        port_names = subst (IsDistinct bytes_eq) (sym (ports_named (used_nets m) m.ports)) lawful.port_names;
        port_bits = rw (many, bits_numbered (used_nets m) m.ports) (nets_small all count bits lawful.port_bits part);
        one_port = rw (bits_numbered (used_nets m) m.ports) (still_differ all count bits lawful.port_bits part lawful.one_port);
        items = rw many (items_lawful m.items (part_right all bits (flat_map item_nets m.items) whole) lawful.items);
      }

-- a lawful source stays one
pub used_lawful : (s : Source) → IsLawful s → IsLawful (record { modules = map with_used_nets s.modules })
used_lawful s lawful = record {
  names = rw (all_named s.modules) lawful.names;
  modules = All-map (IsLawfulModule (record { modules = map with_used_nets s.modules })) with_used_nets s.modules
      (All-weaker (IsLawfulModule s) (λ (m : Module). IsLawfulModule (record { modules = map with_used_nets s.modules }) (with_used_nets m)) (module_lawful s)
      s.modules lawful.modules);
}
