-- What an item reads: nets of the instance that it stands in, and own nets, each of which a constant of the item drives.
use Rattle.std.proofs.Common.{◌≡◌, ◌≢◌, ℕ, ◌+◌, true, List, [], ◌∷◌, ◌++◌, length, map, refl, ap, subst, sym, ◌∙◌}
use Rattle.std.proofs.Common.{inl, inr, ◌⊎◌, All, Some, None}
use Rattle.std.specs.Prelude.{Option, slice_index, flat_map, if◌then◌else◌}
use Rattle.std.proofs.lemmas.List.Concat.{flat_map-append}
use Rattle.std.proofs.lemmas.List.Elements.{All-head, All-tail}
use Rattle.net_model.specs.Form.{OneForm, ZeroForm}
use Rattle.net_model.proofs.Members.{In, In-cases, In-left, In-right, Contains-from_In}
use Rattle.net_model.specs.declared.netlist.Gate.{Gate}
use Rattle.netlist_types.specs.declared.sources.Source.{Source}
use Rattle.netlist_types.specs.declared.sources.Module.{Module}
use Rattle.netlist_types.specs.declared.sources.Port.{Port}
use Rattle.netlist_types.specs.declared.sources.Conn.{Conn}
use Rattle.netlist_types.specs.declared.sources.Wire.{Wire}
use Rattle.netlist_types.specs.declared.sources.Wire.TheVariants as wire
use Rattle.netlist_types.specs.declared.sources.Item.{Item}
use Rattle.netlist_types.specs.declared.sources.Item.TheVariants as item
use Rattle.netlist_types.specs.Lawful.{module_of, IsLawfulItem, IsWireBelow, AreWiresBelow}
use Rattle.netlist_types.specs.declared.gates.PrimKind.TheVariants as prim
use Rattle.cell_types.specs.declared.libraries.Library.{Library}
use Rattle.cell_types.specs.declared.libraries.Cell.{Cell}
use Rattle.cell_types.specs.declared.libraries.CellKind.{CellKind}
use Rattle.cell_types.specs.declared.libraries.CellKind.TheVariants as kind
use Rattle.cell_types.specs.declared.libraries.CombOut.{CombOut}
use Rattle.cell_types.specs.declared.libraries.Flop.{Flop}
use Rattle.cell_types.specs.declared.libraries.GateCell.{GateCell}
use Rattle.link_defs.specs.declared.circuits.Part.{Part}
use Rattle.link_defs.specs.declared.circuits.Part.TheVariants as part
use Rattle.linked_types.specs.declared.faults.LinkFault.{LinkFault}
use Rattle.linked_types.specs.declared.faults.LinkFault.TheVariants as fault
use Rattle.link_defs.specs.CellNames.{clock_pins}
use Rattle.link_defs.specs.Circuits.{part_reads, part_gates}
use Rattle.link_defs.specs.Faults.{in_pins, pin_of}
use Rattle.link_defs.specs.Hierarchy.{cell_of, is_modelled, wires_of}
use Rattle.link_defs.specs.Flatten.{Scope}
use Rattle.link_defs.specs.Parts.{constant, ties, wire_nets, wire_net, bit_ties, pin_ties, pin_net, pin_nets, comb_gates, cell_ties, cell_part}
use Rattle.link_defs.specs.Parts.{inst_parts, item_parts, is_buffer_cell, is_buffer_prim, prim_gate, outs_from, clock_net, gate_clock, flop_reg}
use Rattle.link_items.specs.Faults.{IsInstFault, IsCellFault, IsFaultless}
use Rattle.link_items.proofs.Listing.{with_none}
use Rattle.link_items.proofs.Pinned.{wires_below}
use Rattle.link_circuit.proofs.Spread.{index_in}

-- one of the gates reads nothing and drives the net
abbrev pub IsConst : List Gate → ℕ → Type 0
IsConst gates n = (g : Gate) × In g gates × (g.out ≡ n) × (g.ins ≡ [])

-- the gates of parts, and what parts read
abbrev pub gates_of : List Part → List Gate
gates_of ps = flat_map part_gates ps

abbrev pub reads_of : List Part → List ℕ
reads_of ps = flat_map part_reads ps

const_left : (xs ys : List Part) (n : ℕ) → IsConst (gates_of xs) n → IsConst (gates_of (xs ++ ys)) n
const_left xs ys n (g, there, out, none) =
    (g, subst (λ (gs : List Gate). In g gs) (sym (flat_map-append part_gates xs ys)) (In-left g (gates_of xs) (gates_of ys) there), out, none)

const_right : (xs ys : List Part) (n : ℕ) → IsConst (gates_of ys) n → IsConst (gates_of (xs ++ ys)) n
const_right xs ys n (g, there, out, none) =
    (g, subst (λ (gs : List Gate). In g gs) (sym (flat_map-append part_gates xs ys)) (In-right g (gates_of xs) (gates_of ys) there), out, none)

-- a net of the instance, or one that a constant of these parts drives
abbrev pub IsKnown : List ℕ → List Part → ℕ → Type 0
IsKnown nets ps n = In n nets ⊎ IsConst (gates_of ps) n

known_left : (nets : List ℕ) (xs ys : List Part) (n : ℕ) → IsKnown nets xs n → IsKnown nets (xs ++ ys) n
known_left nets xs ys n (inl here) = inl here
known_left nets xs ys n (inr tied) = inr (const_left xs ys n tied)

known_right : (nets : List ℕ) (xs ys : List Part) (n : ℕ) → IsKnown nets ys n → IsKnown nets (xs ++ ys) n
known_right nets xs ys n (inl here) = inl here
known_right nets xs ys n (inr tied) = inr (const_right xs ys n tied)

wire_known : (nets : List ℕ) (own : ℕ) (w : Wire) (ws : List Wire) → IsWireBelow (length nets) w → IsKnown nets (ties own (w ∷ ws)) (wire_net nets own w)
wire_known nets own (wire.Const b) ws below =
    let g : Gate = record { func = if b then OneForm else ZeroForm; ins = []; out = own } in inr (g, inl refl, refl, refl)
wire_known nets own (wire.Net n) ws below = inl (index_in nets n below)

later_known : (nets : List ℕ) (own : ℕ) (w : Wire) (ws : List Wire) (n : ℕ) → IsKnown nets (ties (own + 1) ws) n → IsKnown nets (ties own (w ∷ ws)) n
later_known nets own (wire.Const b) ws n known = known_right nets (constant b own ∷ []) (ties (own + 1) ws) n known
later_known nets own (wire.Net m) ws n known = known

wires_known : (nets : List ℕ) (own : ℕ) (ws : List Wire) (n : ℕ) → All (IsWireBelow (length nets)) ws → In n (wire_nets nets own ws)
    → IsKnown nets (ties own ws) n
wires_known nets own [] n below has = absurd has
wires_known nets own (w ∷ ws) n below (inl same) =
    subst (λ (m : ℕ). IsKnown nets (ties own (w ∷ ws)) m) same (wire_known nets own w ws (All-head (IsWireBelow (length nets)) w ws below))
wires_known nets own (w ∷ ws) n below (inr rest) =
    later_known nets own w ws n (wires_known nets (own + 1) ws n (All-tail (IsWireBelow (length nets)) w ws below) rest)

first_known : (nets : List ℕ) (own : ℕ) (ws : List Wire) → (ws ≡ [] → ⊥) → All (IsWireBelow (length nets)) ws → IsKnown nets (ties own ws) (pin_net nets own ws)
first_known nets own [] some below = absurd (some refl)
first_known nets own (w ∷ ws) some below = wire_known nets own w ws (All-head (IsWireBelow (length nets)) w ws below)

-- the connections of a cell
record AreJoined (nets : List ℕ) (conns : List Conn) (pins : List (List ℕ)) : Type 0 where
  pub wires : All (λ (c : Conn). AreWiresBelow (length nets) c.wires) conns
  pub some : (pin : List ℕ) → In pin pins → wires_of conns pin ≡ [] → ⊥

pin_known : (nets : List ℕ) (conns : List Conn) (own : ℕ) (pin : List ℕ) → All (λ (c : Conn). AreWiresBelow (length nets) c.wires) conns
    → (wires_of conns pin ≡ [] → ⊥) → IsKnown nets (ties own (wires_of conns pin)) (pin_net nets own (wires_of conns pin))
pin_known nets conns own pin below some = first_known nets own (wires_of conns pin) some (wires_below (length nets) conns pin below)

pins_known : (nets : List ℕ) (conns : List Conn) (pins : List (List ℕ)) (own : ℕ) (n : ℕ) → All (λ (c : Conn). AreWiresBelow (length nets) c.wires) conns
    → ((pin : List ℕ) → In pin pins → wires_of conns pin ≡ [] → ⊥) → In n (pin_nets nets conns own pins) → IsKnown nets (pin_ties conns own pins) n
pins_known nets conns [] own n below some has = absurd has
pins_known nets conns (pin ∷ pins) own n below some (inl same) =
    subst (λ (m : ℕ). IsKnown nets (pin_ties conns own (pin ∷ pins)) m) same
    (known_left nets (ties own (wires_of conns pin)) (pin_ties conns (own + 1) pins) (pin_net nets own (wires_of conns pin))
    (pin_known nets conns own pin below (some pin (inl refl))))
pins_known nets conns (pin ∷ pins) own n below some (inr rest) =
    known_right nets (ties own (wires_of conns pin)) (pin_ties conns (own + 1) pins) n
    (pins_known nets conns pins (own + 1) n below (λ p there bare. some p (inr there) bare) rest)

-- constants read nothing
ties_read : (own : ℕ) (ws : List Wire) (n : ℕ) → In n (reads_of (ties own ws)) → ⊥
ties_read own [] n has = has
ties_read own (wire.Const b ∷ ws) n has = ties_read (own + 1) ws n has
ties_read own (wire.Net m ∷ ws) n has = ties_read (own + 1) ws n has

reads_cases : (xs ys : List Part) (n : ℕ) → In n (reads_of (xs ++ ys)) → In n (reads_of xs) ⊎ In n (reads_of ys)
reads_cases xs ys n has = In-cases n (reads_of xs) (reads_of ys) (subst (λ (ns : List ℕ). In n ns) (flat_map-append part_reads xs ys) has)

pin_ties_read : (conns : List Conn) (own : ℕ) (pins : List (List ℕ)) (n : ℕ) → In n (reads_of (pin_ties conns own pins)) → ⊥
pin_ties_read conns own [] n has = has
pin_ties_read conns own (pin ∷ pins) n has = elim (reads_cases (ties own (wires_of conns pin)) (pin_ties conns (own + 1) pins) n has) [
  | inl here ↦ ties_read own (wires_of conns pin) n here
  | inr later ↦ pin_ties_read conns (own + 1) pins n later
]

bit_ties_read : (first : ℕ) (bits : List ℕ) (ws : List Wire) (n : ℕ) → In n (reads_of (bit_ties first bits ws)) → ⊥
bit_ties_read first [] ws n has = has
bit_ties_read first (bit ∷ bits) [] n has = has
bit_ties_read first (bit ∷ bits) (wire.Const b ∷ ws) n has = bit_ties_read first bits ws n has
bit_ties_read first (bit ∷ bits) (wire.Net m ∷ ws) n has = bit_ties_read first bits ws n has

ports_read : (first : ℕ) (conns : List Conn) (ports : List Port) (n : ℕ)
    → In n (reads_of (flat_map (λ (p : Port). bit_ties first p.bits (wires_of conns p.name)) ports)) → ⊥
ports_read first conns [] n has = has
ports_read first conns (p ∷ ports) n has =
    elim (reads_cases (bit_ties first p.bits (wires_of conns p.name)) (flat_map (λ (p : Port). bit_ties first p.bits (wires_of conns p.name)) ports) n has) [
      | inl here ↦ bit_ties_read first p.bits (wires_of conns p.name) n here
      | inr later ↦ ports_read first conns ports n later
    ]

-- what the part after constants reads
last_read : (xs : List Part) (p : Part) (n : ℕ) → (In n (reads_of xs) → ⊥) → In n (reads_of (xs ++ p ∷ [])) → In n (part_reads p)
last_read xs p n none has = elim (reads_cases xs (p ∷ []) n has) [
  | inl here ↦ absurd (none here)
  | inr later ↦ subst (λ (ns : List ℕ). In n ns) (with_none (part_reads p)) later
]

comb_known : (nets : List ℕ) (conns : List Conn) (first : ℕ) (c : Cell) (outs : List CombOut) (n : ℕ) → c.kind ≡ kind.Comb outs
    → AreJoined nets conns (in_pins c) → In n (reads_of (cell_ties conns first c ++ cell_part nets conns first c))
    → IsKnown nets (cell_ties conns first c ++ cell_part nets conns first c) n
comb_known nets conns first c outs n is joined has =
    let ins = pin_nets nets conns first c.inputs in
    let own : Part = part.Comb (is_buffer_cell c.inputs outs) ins (comb_gates nets conns ins (outs_from first c) outs) in
    let ties_are : cell_ties conns first c ≡ pin_ties conns first c.inputs = rw is refl in
    let part_is : cell_part nets conns first c ≡ own ∷ [] = rw is refl in
    let all : cell_ties conns first c ++ cell_part nets conns first c ≡ pin_ties conns first c.inputs ++ own ∷ [] =
    ap (λ (ps : List Part). ps ++ cell_part nets conns first c) ties_are ∙ ap (λ (ps : List Part). pin_ties conns first c.inputs ++ ps) part_is in
    let read = last_read (pin_ties conns first c.inputs) own n (pin_ties_read conns first c.inputs n)
    (subst (λ (ps : List Part). In n (reads_of ps)) all has) in
    subst (λ (ps : List Part). IsKnown nets ps n) (sym all)
    (known_left nets (pin_ties conns first c.inputs) (own ∷ []) n
    (pins_known nets conns c.inputs first n joined.wires (λ pin there. joined.some pin (In-left pin c.inputs (clock_pins c.kind) there)) read))

clock_in : (c : Cell) (clock : List ℕ) → clock_pins c.kind ≡ clock ∷ [] → In clock (in_pins c)
clock_in c clock pins =
    In-right clock c.inputs (clock_pins c.kind) (subst (λ (ps : List (List ℕ)). In clock ps) (sym pins) (inl refl))

-- a register or a clock gate of so many outputs reads its clock and its inputs
clocked_read : (nets : List ℕ) (conns : List Conn) (first : ℕ) (c : Cell) (count : ℕ) (clock : List ℕ) (n : ℕ) → AreJoined nets conns (in_pins c)
    → In clock (in_pins c)
    → In n (pin_net nets (outs_from first c + count) (wires_of conns clock) ∷ pin_nets nets conns first c.inputs)
    → IsKnown nets (pin_ties conns first c.inputs ++ ties (outs_from first c + count) (wires_of conns clock)) n
clocked_read nets conns first c count clock n joined stands (inl same) =
    let last = outs_from first c + count in
    subst (λ (m : ℕ). IsKnown nets (pin_ties conns first c.inputs ++ ties last (wires_of conns clock)) m) same
    (known_right nets (pin_ties conns first c.inputs) (ties last (wires_of conns clock)) (pin_net nets last (wires_of conns clock))
    (pin_known nets conns last clock joined.wires (joined.some clock stands)))
clocked_read nets conns first c count clock n joined stands (inr rest) =
    known_left nets (pin_ties conns first c.inputs) (ties (outs_from first c + count) (wires_of conns clock)) n
    (pins_known nets conns c.inputs first n joined.wires (λ pin there. joined.some pin (In-left pin c.inputs (clock_pins c.kind) there)) rest)

-- so it is with all parts of its cell
clocked_known : (nets : List ℕ) (conns : List Conn) (first : ℕ) (c : Cell) (count : ℕ) (clock : List ℕ) (own : Part) (n : ℕ)
    → cell_ties conns first c ≡ pin_ties conns first c.inputs ++ ties (outs_from first c + count) (wires_of conns clock)
    → cell_part nets conns first c ≡ own ∷ []
    → part_reads own ≡ pin_net nets (outs_from first c + count) (wires_of conns clock) ∷ pin_nets nets conns first c.inputs
    → clock_pins c.kind ≡ clock ∷ [] → AreJoined nets conns (in_pins c) → In n (reads_of (cell_ties conns first c ++ cell_part nets conns first c))
    → IsKnown nets (cell_ties conns first c ++ cell_part nets conns first c) n
clocked_known nets conns first c count clock own n ties_are part_is reads pin_is joined has =
    let pins = pin_ties conns first c.inputs in
    let last = outs_from first c + count in
    let tied = ties last (wires_of conns clock) in
    let all : cell_ties conns first c ++ cell_part nets conns first c ≡ (pins ++ tied) ++ own ∷ [] =
    ap (λ (ps : List Part). ps ++ cell_part nets conns first c) ties_are ∙ ap (λ (ps : List Part). (pins ++ tied) ++ ps) part_is in
    let none : In n (reads_of (pins ++ tied)) → ⊥ = λ here. elim (reads_cases pins tied n here) [
      | inl l ↦ pin_ties_read conns first c.inputs n l
      | inr r ↦ ties_read last (wires_of conns clock) n r
    ] in
    let read = last_read (pins ++ tied) own n none (subst (λ (ps : List Part). In n (reads_of ps)) all has) in
    subst (λ (ps : List Part). IsKnown nets ps n) (sym all)
    (known_left nets (pins ++ tied) (own ∷ []) n
    (clocked_read nets conns first c count clock n joined (clock_in c clock pin_is) (subst (λ (ns : List ℕ). In n ns) reads read)))

flop_known : (nets : List ℕ) (conns : List Conn) (first : ℕ) (c : Cell) (f : Flop) (n : ℕ) → c.kind ≡ kind.Flop f
    → AreJoined nets conns (in_pins c) → In n (reads_of (cell_ties conns first c ++ cell_part nets conns first c))
    → IsKnown nets (cell_ties conns first c ++ cell_part nets conns first c) n
flop_known nets conns first c f n is joined has =
    let clock = ties (outs_from first c + length f.outs) (wires_of conns f.clock) in
    let own : Part = part.Flop (clock_net nets conns first c f) (flop_reg nets conns first c f) in
    let ties_are : cell_ties conns first c ≡ pin_ties conns first c.inputs ++ clock = rw is refl in
    let part_is : cell_part nets conns first c ≡ own ∷ [] = rw is refl in
    let pin_is : clock_pins c.kind ≡ f.clock ∷ [] = rw is refl in
    clocked_known nets conns first c (length f.outs) f.clock own n ties_are part_is refl pin_is joined has

gate_known : (nets : List ℕ) (conns : List Conn) (first : ℕ) (c : Cell) (g : GateCell) (n : ℕ) → c.kind ≡ kind.Gate g
    → AreJoined nets conns (in_pins c) → In n (reads_of (cell_ties conns first c ++ cell_part nets conns first c))
    → IsKnown nets (cell_ties conns first c ++ cell_part nets conns first c) n
gate_known nets conns first c g n is joined has =
    let clock = ties (outs_from first c + 1) (wires_of conns g.clock) in
    let out = pin_net nets (outs_from first c) (wires_of conns g.out) in
    let own : Part = part.Gate (gate_clock nets conns first c g) (pin_nets nets conns first c.inputs) out in
    let ties_are : cell_ties conns first c ≡ pin_ties conns first c.inputs ++ clock = rw is refl in
    let part_is : cell_part nets conns first c ≡ own ∷ [] = rw is refl in
    let pin_is : clock_pins c.kind ≡ g.clock ∷ [] = rw is refl in
    clocked_known nets conns first c 1 g.clock own n ties_are part_is refl pin_is joined has

-- the pins of a cell that is not refused are connected
joined_if : (nets : List ℕ) (full : List ℕ) (conns : List Conn) (c : Cell) → is_modelled c.kind ≡ true
    → ((e : LinkFault) → e ≢ fault.Memory → IsCellFault c full conns e → ⊥) → All (λ (c : Conn). AreWiresBelow (length nets) c.wires) conns
    → AreJoined nets conns (in_pins c)
joined_if nets full conns c modelled free wires = record {
  wires = wires;
  some = λ pin there bare.
      free (fault.OpenInput (pin_of full pin)) (λ e. cc) (modelled, (pin, Contains-from_In (in_pins c) pin there, bare, refl));
}

cell_known : (nets : List ℕ) (full : List ℕ) (conns : List Conn) (first : ℕ) (c : Cell) (k : CellKind) (n : ℕ) → c.kind ≡ k
    → ((e : LinkFault) → e ≢ fault.Memory → IsCellFault c full conns e → ⊥) → All (λ (c : Conn). AreWiresBelow (length nets) c.wires) conns
    → In n (reads_of (cell_ties conns first c ++ cell_part nets conns first c)) → IsKnown nets (cell_ties conns first c ++ cell_part nets conns first c) n
cell_known nets full conns first c (kind.Comb outs) n is free wires has =
    comb_known nets conns first c outs n is (joined_if nets full conns c (rw is refl) free wires) has
cell_known nets full conns first c (kind.Flop f) n is free wires has =
    flop_known nets conns first c f n is (joined_if nets full conns c (rw is refl) free wires) has
cell_known nets full conns first c (kind.Gate g) n is free wires has =
    gate_known nets conns first c g n is (joined_if nets full conns c (rw is refl) free wires) has
cell_known nets full conns first c (kind.Other o) n is free wires has =
    let none : cell_ties conns first c ++ cell_part nets conns first c ≡ [] = rw is refl in
    absurd (subst (λ (ps : List Part). In n (reads_of ps)) none has)

inst_known : (nets cell full : List ℕ) (conns : List Conn) (first : ℕ) (found : Option Module) (owned : Option Cell) (n : ℕ)
    → ((e : LinkFault) → e ≢ fault.Memory → IsInstFault found owned cell full conns e → ⊥) → All (λ (c : Conn). AreWiresBelow (length nets) c.wires) conns
    → In n (reads_of (elim found [
      | Some m ↦ flat_map (λ (p : Port). bit_ties first p.bits (wires_of conns p.name)) m.ports
      | None ↦ elim owned [ None ↦ [] | Some c ↦ cell_ties conns first c ++ cell_part nets conns first c ]
    ]))
    → IsKnown nets (elim found [
      | Some m ↦ flat_map (λ (p : Port). bit_ties first p.bits (wires_of conns p.name)) m.ports
      | None ↦ elim owned [ None ↦ [] | Some c ↦ cell_ties conns first c ++ cell_part nets conns first c ]
    ]) n
inst_known nets cell full conns first None None n free wires has = absurd has
inst_known nets cell full conns first None (Some c) n free wires has = cell_known nets full conns first c c.kind n refl free wires has
inst_known nets cell full conns first (Some m) owned n free wires has = absurd (ports_read first conns m.ports n has)

copy_read : (nets : List ℕ) (first : ℕ) (from : Wire) (n : ℕ) → IsWireBelow (length nets) from → In n (wire_net nets first from ∷ [])
    → IsKnown nets (ties first (from ∷ [])) n
copy_read nets first from n below (inl same) = subst (λ (m : ℕ). IsKnown nets (ties first (from ∷ [])) m) same (wire_known nets first from [] below)
copy_read nets first from n below (inr rest) = absurd rest

-- what an item reads that is not refused
pub item_known : (s : Source) (lib : Library) (scope : Scope) (first : ℕ) (x : Item) (n : ℕ) → IsLawfulItem s (length scope.nets) x
    → IsFaultless s lib scope x → In n (reads_of (item_parts s lib scope.nets first x)) → IsKnown scope.nets (item_parts s lib scope.nets first x) n
unfolding inst_parts
item_known s lib scope first (item.Inst cell name conns) n is free has =
    inst_known scope.nets cell (scope.prefix ++ name) conns first (module_of s cell) (cell_of lib cell) n free is.1.0 has
item_known s lib scope first (item.Prim k name outs ins) n is free has =
    let pins = wire_nets scope.nets first ins in
    let own : Part = part.Comb (is_buffer_prim k) pins (map (λ (out : ℕ). prim_gate k pins (slice_index scope.nets out)) outs) in
    known_left scope.nets (ties first ins) (own ∷ []) n
    (wires_known scope.nets first ins n is.1.1 (last_read (ties first ins) own n (ties_read first ins n) has))
item_known s lib scope first (item.Copy to from) n is free has =
    let pins = wire_net scope.nets first from ∷ [] in
    let own : Part = part.Comb true pins (prim_gate prim.Buf pins (slice_index scope.nets to) ∷ []) in
    known_left scope.nets (ties first (from ∷ [])) (own ∷ []) n
    (copy_read scope.nets first from n is.1 (last_read (ties first (from ∷ [])) own n (ties_read first (from ∷ []) n) has))
