-- What an item drives: nets of the instance that it stands in, and own nets, each of these once.
use Rattle.std.proofs.Common.{◌≡◌, ℕ, ◌+◌, ◌<◌, ◌≤◌, Bool, true, false, List, [], ◌∷◌, ◌++◌, length, map, refl, ap, subst, sym, ◌∙◌, arith}
use Rattle.std.proofs.Common.{inl, inr, cond, All, Some, None, append_assoc}
use Rattle.std.specs.Prelude.{Option, count_by, ◌==◌, slice_index, nat_eq, flat_map}
use Rattle.std.specs.List.{IsDistinct, AllByRecursion}
use Rattle.std.proofs.lemmas.Bool.{eqb-true}
use Rattle.std.proofs.lemmas.Bool.Decides.{nat_tests}
use Rattle.std.proofs.lemmas.List.Concat.{flat_map-append}
use Rattle.std.proofs.lemmas.List.Elements.{All-head, All-tail}
use Rattle.net_model.specs.Netlist.{AllBelow, gate_nets}
use Rattle.net_model.proofs.Members.{In, In-cases}
use Rattle.net_model.proofs.Order.{count_append, count_cons}
use Rattle.net_model.specs.declared.netlist.Gate.{Gate}
use Rattle.net_model.specs.declared.netlist.RegOut.{RegOut}
use Rattle.netlist_types.specs.declared.sources.Source.{Source}
use Rattle.netlist_types.specs.declared.sources.Module.{Module}
use Rattle.netlist_types.specs.declared.sources.Port.{Port}
use Rattle.netlist_types.specs.declared.sources.Conn.{Conn}
use Rattle.netlist_types.specs.declared.sources.Wire.{Wire}
use Rattle.netlist_types.specs.declared.sources.Wire.TheVariants as wire
use Rattle.netlist_types.specs.declared.sources.Item.{Item}
use Rattle.netlist_types.specs.declared.sources.Item.TheVariants as item
use Rattle.netlist_types.specs.Lawful.{module_of, IsLawful, IsLawfulItem, IsLawfulModule, IsBelow, IsWireBelow, AreWiresBelow, HasWidths}
use Rattle.netlist_types.specs.declared.gates.PrimKind.{PrimKind}
use Rattle.netlist_types.specs.declared.gates.PrimKind.TheVariants as prim
use Rattle.cell_types.specs.declared.libraries.Library.{Library}
use Rattle.cell_types.specs.declared.libraries.Cell.{Cell}
use Rattle.cell_types.specs.declared.libraries.CellKind.{CellKind}
use Rattle.cell_types.specs.declared.libraries.CellKind.TheVariants as kind
use Rattle.cell_types.specs.declared.libraries.CombOut.{CombOut}
use Rattle.cell_types.specs.declared.libraries.Flop.{Flop}
use Rattle.cell_types.specs.declared.libraries.FlopOut.{FlopOut}
use Rattle.cell_types.specs.declared.libraries.GateCell.{GateCell}
use Rattle.link_defs.specs.declared.circuits.Part.{Part}
use Rattle.link_defs.specs.declared.circuits.Part.TheVariants as part
use Rattle.link_defs.specs.Circuits.{part_outs}
use Rattle.link_defs.specs.Hierarchy.{cell_of, wires_of}
use Rattle.link_defs.specs.Flatten.{Scope, other_pins, own_nets, inst_nets}
use Rattle.link_defs.specs.Parts.{ties, wire_nets, wire_net, bit_ties, pin_ties, pin_net, pin_nets, comb_gates, reg_outs, cell_ties, cell_part}
use Rattle.link_defs.specs.Parts.{inst_parts, item_parts, is_buffer_cell, is_buffer_prim, prim_gate, outs_from, clock_net, gate_clock, flop_reg}
use Rattle.link_items.proofs.Listing.{with_none}
use Rattle.link_items.proofs.Pinned.{wires_below, narrow, port_bits}
use Rattle.link_circuit.proofs.Parting.{module_lawful}
use Rattle.link_circuit.proofs.Spread.{IsSpread, spread_none, spread_own, spread_all, spread_in, spread_wider, spread_join, index_in, zero_of}

-- what parts drive
abbrev pub outs_of : List Part → List ℕ
outs_of ps = flat_map part_outs ps

pub ties_spread : (nets : List ℕ) (ws : List Wire) (own : ℕ) → IsSpread nets own (own + length ws) (outs_of (ties own ws))
ties_spread nets [] own = spread_none nets own (own + 0)
ties_spread nets (wire.Const b ∷ ws) own =
    spread_join nets (own ∷ []) (outs_of (ties (own + 1) ws)) own (own + length (wire.Const b ∷ ws)) own (own + 1) (own + 1) (own + 1 + length ws)
    (omega arith) (omega arith) (omega arith) (omega arith) (λ n a b c d. omega (arith, b, c)) (spread_own nets own) (ties_spread nets ws (own + 1))
ties_spread nets (wire.Net n ∷ ws) own =
    spread_wider nets (outs_of (ties (own + 1) ws)) (own + 1) (own + 1 + length ws) own (own + length (wire.Net n ∷ ws)) (omega arith) (omega arith)
    (ties_spread nets ws (own + 1))

pin_ties_spread : (nets : List ℕ) (conns : List Conn) (pins : List (List ℕ)) (own : ℕ) → HasWidths None conns
    → IsSpread nets own (own + length pins) (outs_of (pin_ties conns own pins))
pin_ties_spread nets conns [] own widths = spread_none nets own (own + 0)
pin_ties_spread nets conns (pin ∷ pins) own widths =
    let few = narrow conns pin widths in
    subst (λ (ns : List ℕ). IsSpread nets own (own + length (pin ∷ pins)) ns)
    (sym (flat_map-append part_outs (ties own (wires_of conns pin)) (pin_ties conns (own + 1) pins)))
    (spread_join nets (outs_of (ties own (wires_of conns pin))) (outs_of (pin_ties conns (own + 1) pins)) own (own + length (pin ∷ pins))
    own (own + length (wires_of conns pin)) (own + 1) (own + 1 + length pins)
    (omega arith) (omega (arith, few)) (omega arith) (omega arith) (λ n a b c d. omega (arith, b, c, few))
    (ties_spread nets (wires_of conns pin) own) (pin_ties_spread nets conns pins (own + 1) widths))

wire_spread : (nets : List ℕ) (own : ℕ) (w : Wire) → IsWireBelow (length nets) w → IsSpread nets own (own + 1) (wire_net nets own w ∷ [])
wire_spread nets own (wire.Const b) below = spread_own nets own
wire_spread nets own (wire.Net n) below = spread_in nets own (own + 1) (slice_index nets n) (index_in nets n below)

first_spread : (nets : List ℕ) (own : ℕ) (ws : List Wire) → All (IsWireBelow (length nets)) ws → IsSpread nets own (own + 1) (pin_net nets own ws ∷ [])
first_spread nets own [] below = spread_own nets own
first_spread nets own (w ∷ ws) below = wire_spread nets own w (All-head (IsWireBelow (length nets)) w ws below)

pin_spread : (nets : List ℕ) (conns : List Conn) (own : ℕ) (pin : List ℕ) → All (λ (c : Conn). AreWiresBelow (length nets) c.wires) conns
    → IsSpread nets own (own + 1) (pin_net nets own (wires_of conns pin) ∷ [])
pin_spread nets conns own pin below = first_spread nets own (wires_of conns pin) (wires_below (length nets) conns pin below)

gates_spread : (nets : List ℕ) (conns : List Conn) (ins : List ℕ) (outs : List CombOut) (own : ℕ)
    → All (λ (c : Conn). AreWiresBelow (length nets) c.wires) conns → IsSpread nets own (own + length outs) (gate_nets (comb_gates nets conns ins own outs))
gates_spread nets conns ins [] own below = spread_none nets own (own + 0)
gates_spread nets conns ins (o ∷ os) own below =
    spread_join nets (pin_net nets own (wires_of conns o.name) ∷ []) (gate_nets (comb_gates nets conns ins (own + 1) os)) own (own + length (o ∷ os))
    own (own + 1) (own + 1) (own + 1 + length os) (omega arith) (omega arith) (omega arith) (omega arith) (λ n a b c d. omega (arith, b, c))
    (pin_spread nets conns own o.name below) (gates_spread nets conns ins os (own + 1) below)

regs_spread : (nets : List ℕ) (conns : List Conn) (outs : List FlopOut) (own : ℕ)
    → All (λ (c : Conn). AreWiresBelow (length nets) c.wires) conns
    → IsSpread nets own (own + length outs) (map (λ (o : RegOut). o.net) (reg_outs nets conns own outs))
regs_spread nets conns [] own below = spread_none nets own (own + 0)
regs_spread nets conns (o ∷ os) own below =
    spread_join nets (pin_net nets own (wires_of conns o.name) ∷ []) (map (λ (o : RegOut). o.net) (reg_outs nets conns (own + 1) os)) own
    (own + length (o ∷ os)) own (own + 1) (own + 1) (own + 1 + length os)
    (omega arith) (omega arith) (omega arith) (omega arith) (λ n a b c d. omega (arith, b, c))
    (pin_spread nets conns own o.name below) (regs_spread nets conns os (own + 1) below)

-- a part after others
pub one_after : (ps : List Part) (p : Part) → outs_of (ps ++ p ∷ []) ≡ outs_of ps ++ part_outs p
one_after ps p = flat_map-append part_outs ps (p ∷ []) ∙ ap (λ (ns : List ℕ). outs_of ps ++ ns) (with_none (part_outs p))

joined_twice : (xs ys zs : List ℕ) → (xs ++ ys) ++ zs ≡ xs ++ (ys ++ zs)
joined_twice xs ys zs = append_assoc xs ys zs

-- what is known of the connections of a cell
record AreWired (nets : List ℕ) (conns : List Conn) : Type 0 where
  pub wires : All (λ (c : Conn). AreWiresBelow (length nets) c.wires) conns
  pub widths : HasWidths None conns

comb_spread : (nets : List ℕ) (conns : List Conn) (first : ℕ) (c : Cell) (outs : List CombOut) → c.kind ≡ kind.Comb outs → AreWired nets conns
    → IsSpread nets first (first + (length c.inputs + length outs)) (outs_of (cell_ties conns first c ++ cell_part nets conns first c))
comb_spread nets conns first c outs is wired =
    let ins = pin_nets nets conns first c.inputs in
    let gates = comb_gates nets conns ins (outs_from first c) outs in
    let own : Part = part.Comb (is_buffer_cell c.inputs outs) ins gates in
    let ties_are : cell_ties conns first c ≡ pin_ties conns first c.inputs = rw is refl in
    let part_is : cell_part nets conns first c ≡ own ∷ [] = rw is refl in
    let all : outs_of (cell_ties conns first c ++ cell_part nets conns first c) ≡ outs_of (pin_ties conns first c.inputs) ++ gate_nets gates =
    ap (λ (ps : List Part). outs_of (ps ++ cell_part nets conns first c)) ties_are ∙ ap (λ (ps : List Part). outs_of (pin_ties conns first c.inputs ++ ps)) part_is
    ∙ one_after (pin_ties conns first c.inputs) own in
    subst (λ (ns : List ℕ). IsSpread nets first (first + (length c.inputs + length outs)) ns) (sym all)
    (spread_join nets (outs_of (pin_ties conns first c.inputs)) (gate_nets gates) first (first + (length c.inputs + length outs))
    first (first + length c.inputs) (outs_from first c) (outs_from first c + length outs)
    (omega arith) (omega arith) (omega arith) (omega arith) (λ n a b c d. omega (arith, b, c))
    (pin_ties_spread nets conns c.inputs first wired.widths) (gates_spread nets conns ins outs (outs_from first c) wired.wires))

-- the constants of the input pins and of the clock pin, and the outputs, of a register or a clock gate with so many of these
clocked_spread : (nets : List ℕ) (conns : List Conn) (first : ℕ) (c : Cell) (count : ℕ) (clock_pin outs : List ℕ) → AreWired nets conns
    → IsSpread nets (outs_from first c) (outs_from first c + count) outs
    → IsSpread nets first (first + (length c.inputs + (count + 1)))
    ((outs_of (pin_ties conns first c.inputs) ++ outs_of (ties (outs_from first c + count) (wires_of conns clock_pin))) ++ outs)
clocked_spread nets conns first c count clock_pin outs wired at_outs =
    let to = first + (length c.inputs + (count + 1)) in
    let last = outs_from first c + count in
    let pins = outs_of (pin_ties conns first c.inputs) in
    let clock = outs_of (ties last (wires_of conns clock_pin)) in
    let few = narrow conns clock_pin wired.widths in
    let at_clock : IsSpread nets last (last + 1) clock =
    spread_wider nets clock last (last + length (wires_of conns clock_pin)) last (last + 1) (omega arith) (omega (arith, few))
    (ties_spread nets (wires_of conns clock_pin) last) in
    let later : IsSpread nets (outs_from first c) to (clock ++ outs) =
    spread_join nets clock outs (outs_from first c) to last (last + 1) (outs_from first c) last
    (omega arith) (omega arith) (omega arith) (omega arith) (λ n a b c d. omega (arith, a, d)) at_clock at_outs in
    let joined : IsSpread nets first to (pins ++ (clock ++ outs)) =
    spread_join nets pins (clock ++ outs) first to first (first + length c.inputs) (outs_from first c) to
    (omega arith) (omega arith) (omega arith) (omega arith) (λ n a b c d. omega (arith, b, c)) (pin_ties_spread nets conns c.inputs first wired.widths) later in
    subst (λ (ns : List ℕ). IsSpread nets first to ns) (sym (joined_twice pins clock outs)) joined

-- what the parts of such a cell drive
clocked_outs : (nets : List ℕ) (conns : List Conn) (first : ℕ) (c : Cell) (pins clock : List Part) (own : Part) → cell_ties conns first c ≡ pins ++ clock
    → cell_part nets conns first c ≡ own ∷ []
    → outs_of (cell_ties conns first c ++ cell_part nets conns first c) ≡ (outs_of pins ++ outs_of clock) ++ part_outs own
clocked_outs nets conns first c pins clock own ties_are part_is =
    ap (λ (ps : List Part). outs_of (ps ++ cell_part nets conns first c)) ties_are ∙ ap (λ (ps : List Part). outs_of ((pins ++ clock) ++ ps)) part_is
    ∙ one_after (pins ++ clock) own ∙ ap (λ (ns : List ℕ). ns ++ part_outs own) (flat_map-append part_outs pins clock)

flop_spread : (nets : List ℕ) (conns : List Conn) (first : ℕ) (c : Cell) (f : Flop) → c.kind ≡ kind.Flop f → AreWired nets conns
    → IsSpread nets first (first + (length c.inputs + (length f.outs + 1))) (outs_of (cell_ties conns first c ++ cell_part nets conns first c))
flop_spread nets conns first c f is wired =
    let pins = pin_ties conns first c.inputs in
    let clock = ties (outs_from first c + length f.outs) (wires_of conns f.clock) in
    let outs = map (λ (o : RegOut). o.net) (reg_outs nets conns (outs_from first c) f.outs) in
    let own : Part = part.Flop (clock_net nets conns first c f) (flop_reg nets conns first c f) in
    let ties_are : cell_ties conns first c ≡ pins ++ clock = rw is refl in
    let part_is : cell_part nets conns first c ≡ own ∷ [] = rw is refl in
    subst (λ (ns : List ℕ). IsSpread nets first (first + (length c.inputs + (length f.outs + 1))) ns)
    (sym (clocked_outs nets conns first c pins clock own ties_are part_is))
    (clocked_spread nets conns first c (length f.outs) f.clock outs wired (regs_spread nets conns f.outs (outs_from first c) wired.wires))

-- a clock gate has one output
gate_spread : (nets : List ℕ) (conns : List Conn) (first : ℕ) (c : Cell) (g : GateCell) → c.kind ≡ kind.Gate g → AreWired nets conns
    → IsSpread nets first (first + (length c.inputs + 2)) (outs_of (cell_ties conns first c ++ cell_part nets conns first c))
gate_spread nets conns first c g is wired =
    let pins = pin_ties conns first c.inputs in
    let clock = ties (outs_from first c + 1) (wires_of conns g.clock) in
    let out = pin_net nets (outs_from first c) (wires_of conns g.out) in
    let own : Part = part.Gate (gate_clock nets conns first c g) (pin_nets nets conns first c.inputs) out in
    let ties_are : cell_ties conns first c ≡ pins ++ clock = rw is refl in
    let part_is : cell_part nets conns first c ≡ own ∷ [] = rw is refl in
    subst (λ (ns : List ℕ). IsSpread nets first (first + (length c.inputs + 2)) ns)
    (sym (clocked_outs nets conns first c pins clock own ties_are part_is))
    (clocked_spread nets conns first c 1 g.clock (out ∷ []) wired (pin_spread nets conns (outs_from first c) g.out wired.wires))

none_spread : (nets : List ℕ) (conns : List Conn) (first : ℕ) (c : Cell) → cell_ties conns first c ++ cell_part nets conns first c ≡ []
    → IsSpread nets first (first + (length c.inputs + 0)) (outs_of (cell_ties conns first c ++ cell_part nets conns first c))
none_spread nets conns first c none =
    subst (λ (ps : List Part). IsSpread nets first (first + (length c.inputs + 0)) (outs_of ps)) (sym none)
    (spread_none nets first (first + (length c.inputs + 0)))

cell_spread : (nets : List ℕ) (conns : List Conn) (first : ℕ) (c : Cell) (k : CellKind) → c.kind ≡ k → AreWired nets conns
    → IsSpread nets first (first + (length c.inputs + other_pins c)) (outs_of (cell_ties conns first c ++ cell_part nets conns first c))
cell_spread nets conns first c (kind.Comb outs) is wired =
    let pins : other_pins c ≡ length outs = rw is refl in
    subst (λ (n : ℕ). IsSpread nets first (first + (length c.inputs + n)) (outs_of (cell_ties conns first c ++ cell_part nets conns first c))) (sym pins)
    (comb_spread nets conns first c outs is wired)
cell_spread nets conns first c (kind.Flop f) is wired =
    let pins : other_pins c ≡ length f.outs + 1 = rw is refl in
    subst (λ (n : ℕ). IsSpread nets first (first + (length c.inputs + n)) (outs_of (cell_ties conns first c ++ cell_part nets conns first c))) (sym pins)
    (flop_spread nets conns first c f is wired)
cell_spread nets conns first c (kind.Gate g) is wired =
    let pins : other_pins c ≡ 2 = rw is refl in
    subst (λ (n : ℕ). IsSpread nets first (first + (length c.inputs + n)) (outs_of (cell_ties conns first c ++ cell_part nets conns first c))) (sym pins)
    (gate_spread nets conns first c g is wired)
cell_spread nets conns first c (kind.Other o) is wired =
    let pins : other_pins c ≡ 0 = rw is refl in
    subst (λ (n : ℕ). IsSpread nets first (first + (length c.inputs + n)) (outs_of (cell_ties conns first c ++ cell_part nets conns first c))) (sym pins)
    (none_spread nets conns first c (rw is refl))

-- the constants at the bits of a port
bit_from : (n first count : ℕ) (bits : List ℕ) (ws : List Wire) → AllBelow count bits → In n (outs_of (bit_ties first bits ws))
    → (first ≤ n) × (n < first + count)
bit_from n first count [] ws below has = absurd has
bit_from n first count (bit ∷ bits) [] below has = absurd has
bit_from n first count (bit ∷ bits) (wire.Const b ∷ ws) below (inl same) =
    let lt : bit < count = All-head (λ (m : ℕ). m < count) bit bits below in (omega (arith, same), omega (arith, same, lt))
bit_from n first count (bit ∷ bits) (wire.Const b ∷ ws) below (inr rest) =
    bit_from n first count bits ws (All-tail (λ (m : ℕ). m < count) bit bits below) rest
bit_from n first count (bit ∷ bits) (wire.Net m ∷ ws) below has = bit_from n first count bits ws (All-tail (λ (m : ℕ). m < count) bit bits below) has

abbrev placed : ℕ → List ℕ → List ℕ
placed first bits = map (λ (bit : ℕ). first + bit) bits

bits_count : (n first : ℕ) (bits : List ℕ) (ws : List Wire) → count_by (λ m. m == n) (outs_of (bit_ties first bits ws)) ≤ count_by (λ m. m == n) (placed first bits)
bits_count n first [] ws = omega arith
bits_count n first (bit ∷ bits) [] = omega arith
bits_count n first (bit ∷ bits) (wire.Const b ∷ ws) =
    let p : ℕ → Bool = λ m. m == n in
    omega (arith, count_cons p (first + bit) (outs_of (bit_ties first bits ws)), count_cons p (first + bit) (placed first bits), bits_count n first bits ws)
bits_count n first (bit ∷ bits) (wire.Net m ∷ ws) =
    let p : ℕ → Bool = λ m. m == n in omega (arith, count_cons p (first + bit) (placed first bits), bits_count n first bits ws)

abbrev port_ties : ℕ → List Conn → Port → List Part
port_ties first conns p = bit_ties first p.bits (wires_of conns p.name)

abbrev bits_in : List Port → List ℕ
bits_in ports = flat_map (λ (p : Port). p.bits) ports

ports_from : (n first count : ℕ) (conns : List Conn) (ports : List Port) → All (λ (p : Port). AllBelow count p.bits) ports
    → In n (outs_of (flat_map (port_ties first conns) ports)) → (first ≤ n) × (n < first + count)
ports_from n first count conns [] below has = absurd has
ports_from n first count conns (p ∷ ports) below has =
    elim (In-cases n (outs_of (port_ties first conns p)) (outs_of (flat_map (port_ties first conns) ports))
    (subst (λ (ns : List ℕ). In n ns) (flat_map-append part_outs (port_ties first conns p) (flat_map (port_ties first conns) ports)) has)) [
      | inl here ↦ bit_from n first count p.bits (wires_of conns p.name) (All-head (λ (p : Port). AllBelow count p.bits) p ports below) here
      | inr later ↦ ports_from n first count conns ports (All-tail (λ (p : Port). AllBelow count p.bits) p ports below) later
    ]

placed_append : (first : ℕ) (xs ys : List ℕ) → placed first (xs ++ ys) ≡ placed first xs ++ placed first ys
placed_append first [] ys = refl
placed_append first (x ∷ xs) ys = ap (λ (ns : List ℕ). (first + x) ∷ ns) (placed_append first xs ys)

ports_count : (n first : ℕ) (conns : List Conn) (ports : List Port)
    → count_by (λ m. m == n) (outs_of (flat_map (port_ties first conns) ports)) ≤ count_by (λ m. m == n) (placed first (bits_in ports))
ports_count n first conns [] = omega arith
ports_count n first conns (p ∷ ports) =
    let test : ℕ → Bool = λ m. m == n in
    let rest = outs_of (flat_map (port_ties first conns) ports) in
    let left = ap (λ (ns : List ℕ). count_by test ns) (flat_map-append part_outs (port_ties first conns p) (flat_map (port_ties first conns) ports)) in
    let right = ap (λ (ns : List ℕ). count_by test ns) (placed_append first p.bits (bits_in ports)) in
    omega (
      arith,
      left,
      right,
      count_append test (outs_of (port_ties first conns p)) rest,
      count_append test (placed first p.bits) (placed first (bits_in ports)),
      bits_count n first p.bits (wires_of conns p.name),
      ports_count n first conns ports,
    )

same_hit : (x y : ℕ) → x ≡ y → nat_eq x y ≡ true
same_hit x y same = grind (arith, nat_tests)

one_if : (b : Bool) → cond b 1 0 ≤ 1
one_if true = omega arith
one_if false = omega arith

none_if : (b : Bool) → b ≡ false → cond b 1 0 ≤ 0
none_if true e = cc
none_if false e = omega arith

differ_not : (x y : ℕ) → nat_eq x y ≡ false → x ≡ y → ⊥
differ_not x y off same = let hit : nat_eq x y ≡ true = same_hit x y same in cc

-- numbers that differ from one are not it
off_none : (n first x : ℕ) (xs : List ℕ) → first + x ≡ n → AllByRecursion (λ y. nat_eq x y ≡ false) xs → In n (placed first xs) → ⊥
off_none n first x [] is off has = absurd has
off_none n first x (y ∷ ys) is off (inl same) = differ_not x y off.0 (omega (arith, same, is))
off_none n first x (y ∷ ys) is off (inr rest) = off_none n first x ys is off.1 rest

distinct_or : (n first x : ℕ) (xs : List ℕ) (b : Bool) → (first + x == n) ≡ b → AllByRecursion (λ y. nat_eq x y ≡ false) xs
    → count_by (λ m. m == n) (placed first xs) ≤ 1 → count_by (λ m. m == n) (placed first (x ∷ xs)) ≤ 1
distinct_or n first x xs true e off further =
    let is : first + x ≡ n = eqb-true (first + x) n e in
    let none = zero_of n (placed first xs) (off_none n first x xs is off) in
    omega (arith, count_cons (λ m. m == n) (first + x) (placed first xs), none, one_if (first + x == n))
distinct_or n first x xs false e off further =
    omega (arith, count_cons (λ m. m == n) (first + x) (placed first xs), none_if (first + x == n) e, further)

-- places that differ are counted once
distinct_count : (n first : ℕ) (xs : List ℕ) → IsDistinct nat_eq xs → count_by (λ m. m == n) (placed first xs) ≤ 1
unfolding IsDistinct
distinct_count n first [] is = omega arith
distinct_count n first (x ∷ xs) is = distinct_or n first x xs (first + x == n) refl is.0 (distinct_count n first xs is.1)

module_spread : (s : Source) (nets : List ℕ) (conns : List Conn) (first : ℕ) (m : Module) → IsLawfulModule s m
    → IsSpread nets first (first + length m.nets) (outs_of (flat_map (port_ties first conns) m.ports))
module_spread s nets conns first m lawful = record {
  each = λ n has. inr (ports_from n first (length m.nets) conns m.ports (port_bits s m lawful) has);
  once = λ n no. omega (arith, ports_count n first conns m.ports, distinct_count n first (bits_in m.ports) lawful.one_port);
}

inst_spread : (s : Source) (nets : List ℕ) (conns : List Conn) (first : ℕ) (found : Option Module) (owned : Option Cell)
    → All (λ (c : Conn). AreWiresBelow (length nets) c.wires) conns → HasWidths found conns → ((m : Module) → found ≡ Some m → IsLawfulModule s m)
    → IsSpread nets first (first + (elim found [ Some m ↦ length m.nets | None ↦ elim owned [ Some c ↦ length c.inputs + other_pins c | None ↦ 0 ] ]))
    (outs_of (elim found [
      | Some m ↦ flat_map (λ (p : Port). bit_ties first p.bits (wires_of conns p.name)) m.ports
      | None ↦ elim owned [ None ↦ [] | Some c ↦ cell_ties conns first c ++ cell_part nets conns first c ]
    ]))
inst_spread s nets conns first None None wires widths modules = spread_none nets first (first + 0)
inst_spread s nets conns first None (Some c) wires widths modules = cell_spread nets conns first c c.kind refl (record { wires = wires; widths = widths })
inst_spread s nets conns first (Some m) owned wires widths modules = module_spread s nets conns first m (modules m refl)

prim_in : (nets : List ℕ) (k : PrimKind) (pins outs : List ℕ) (n : ℕ) → All (IsBelow (length nets)) outs
    → In n (gate_nets (map (λ (out : ℕ). prim_gate k pins (slice_index nets out)) outs)) → In n nets
prim_in nets k pins [] n below has = absurd has
prim_in nets k pins (o ∷ os) n below (inl same) =
    subst (λ (m : ℕ). In m nets) same (index_in nets o (All-head (IsBelow (length nets)) o os below))
prim_in nets k pins (o ∷ os) n below (inr rest) = prim_in nets k pins os n (All-tail (IsBelow (length nets)) o os below) rest

prim_spread : (nets : List ℕ) (k : PrimKind) (outs : List ℕ) (ins : List Wire) (first : ℕ) → All (IsBelow (length nets)) outs
    → IsSpread nets first (first + length ins) (outs_of (ties first ins ++ part.Comb (is_buffer_prim k) (wire_nets nets first ins)
    (map (λ (out : ℕ). prim_gate k (wire_nets nets first ins) (slice_index nets out)) outs) ∷ []))
prim_spread nets k outs ins first below =
    let pins = wire_nets nets first ins in
    let gates = map (λ (out : ℕ). prim_gate k pins (slice_index nets out)) outs in
    let own : Part = part.Comb (is_buffer_prim k) pins gates in
    subst (λ (ns : List ℕ). IsSpread nets first (first + length ins) ns) (sym (one_after (ties first ins) own))
    (spread_join nets (outs_of (ties first ins)) (gate_nets gates) first (first + length ins) first (first + length ins) (first + length ins) (first + length ins)
    (omega arith) (omega arith) (omega arith) (omega arith) (λ n a b c d. omega (arith, b, c)) (ties_spread nets ins first)
    (spread_all nets (gate_nets gates) (first + length ins) (first + length ins) (λ n has. prim_in nets k pins outs n below has)))

copy_spread : (nets : List ℕ) (to : ℕ) (from : Wire) (first : ℕ) → to < length nets
    → IsSpread nets first (first + 1) (outs_of (ties first (from ∷ []) ++ part.Comb true (wire_net nets first from ∷ [])
    (prim_gate prim.Buf (wire_net nets first from ∷ []) (slice_index nets to) ∷ []) ∷ []))
copy_spread nets to from first below =
    let pins = wire_net nets first from ∷ [] in
    let gate : Gate = prim_gate prim.Buf pins (slice_index nets to) in
    let own : Part = part.Comb true pins (gate ∷ []) in
    subst (λ (ns : List ℕ). IsSpread nets first (first + 1) ns) (sym (one_after (ties first (from ∷ [])) own))
    (spread_join nets (outs_of (ties first (from ∷ []))) (slice_index nets to ∷ []) first (first + 1) first (first + 1) (first + 1) (first + 1)
    (omega arith) (omega arith) (omega arith) (omega arith) (λ n a b c d. omega (arith, b, c)) (ties_spread nets (from ∷ []) first)
    (spread_in nets (first + 1) (first + 1) (slice_index nets to) (index_in nets to below)))

-- what an item drives
pub item_spread : (s : Source) (lib : Library) (scope : Scope) (first : ℕ) (x : Item) → IsLawful s → IsLawfulItem s (length scope.nets) x
    → IsSpread scope.nets first (first + own_nets s lib x) (outs_of (item_parts s lib scope.nets first x))
unfolding inst_parts inst_nets
item_spread s lib scope first (item.Inst cell name conns) lawful is =
    inst_spread s scope.nets conns first (module_of s cell) (cell_of lib cell) is.1.0 is.1.1 (λ m found. module_lawful s cell m lawful found)
item_spread s lib scope first (item.Prim k name outs ins) lawful is = prim_spread scope.nets k outs ins first is.1.0
item_spread s lib scope first (item.Copy to from) lawful is = copy_spread scope.nets to from first is.0
