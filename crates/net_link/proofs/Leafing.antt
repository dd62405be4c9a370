-- The leaves of a flat netlist have its registers, each as many pins as its part, and their parts stand in the circuit.
use Rattle.std.proofs.Common.{◌≡◌, ℕ, ◌+◌, ◌<◌, true, false, List, [], ◌∷◌, ◌++◌, length, map, All, Some, None, refl, ap, subst, sym, ◌∙◌}
use Rattle.std.specs.Prelude.{Option, slice_index, slice_index_or, flat_map}
use Rattle.std.proofs.lemmas.List.Concat.{flat_map-append}
use Rattle.std.proofs.lemmas.List.Elements.{All-cons, All-append}
use Rattle.std.proofs.lemmas.Option.{get_or_from_slice_get, slice_get_within}
use Rattle.net_model.specs.declared.netlist.Reg.{Reg}
use Rattle.net_model.proofs.Members.{In, In-from_Contains}
use Rattle.netlist_types.specs.declared.sources.Source.{Source}
use Rattle.netlist_types.specs.declared.sources.Module.{Module}
use Rattle.netlist_types.specs.declared.sources.Port.{Port}
use Rattle.netlist_types.specs.declared.sources.Conn.{Conn}
use Rattle.netlist_types.specs.declared.sources.Wire.{Wire}
use Rattle.netlist_types.specs.declared.sources.Wire.TheVariants as wire
use Rattle.netlist_types.specs.declared.sources.Item.{Item}
use Rattle.netlist_types.specs.declared.sources.Item.TheVariants as item
use Rattle.netlist_types.specs.Lawful.{module_of}
use Rattle.netlist_types.specs.declared.gates.PrimKind.TheVariants as prim
use Rattle.cell_types.specs.declared.libraries.Library.{Library}
use Rattle.cell_types.specs.declared.libraries.Cell.{Cell}
use Rattle.cell_types.specs.declared.libraries.CellKind.{CellKind}
use Rattle.cell_types.specs.declared.libraries.CellKind.TheVariants as kind
use Rattle.link_defs.specs.declared.circuits.Part.{Part}
use Rattle.link_defs.specs.declared.circuits.Part.TheVariants as part
use Rattle.link_defs.specs.Circuits.{part_regs}
use Rattle.link_defs.specs.CellNames.{Leaf, last_part, leaf_if_any, leaves_of}
use Rattle.link_defs.specs.Flatten.{Scope, Located}
use Rattle.link_defs.specs.GatedDesigns.{Flop, part_flop}
use Rattle.link_defs.specs.Hierarchy.{cell_of, wires_of}
use Rattle.link_defs.specs.Parts.{ties, pin_ties, bit_ties, cell_ties, cell_part, inst_parts, item_parts, parts_of, wire_nets, wire_net, prim_gate}
use Rattle.link_defs.specs.Parts.{is_buffer_prim, outs_from}
use Rattle.link_items.specs.declared.made.LeafPlace.{LeafPlace}
use Rattle.link_items.specs.Items.{AreLeavesAt, IsLeafAt, IsCellAt}
use Rattle.link_items.specs.Cells.{comb_part, flop_part, flop_ties, gate_part, gate_ties}
use Rattle.link_items.proofs.Listing.{contains_at, with_none}
use Rattle.link_circuit.proofs.Lawfully.{length_pin_nets, all_none}
use Rattle.net_link.specs.Places.{cell_at, leaf_at, IsShaped, leaf_flop, AreLeavesOf}

-- the register of a leaf, if it is one
abbrev pub leaf_regs : Leaf → List Reg
leaf_regs l = part_regs l.part

ties_none : (ws : List Wire) (own : ℕ) → flat_map part_flop (ties own ws) ≡ []
ties_none [] own = refl
ties_none (wire.Const b ∷ ws) own = ties_none ws (own + 1)
ties_none (wire.Net n ∷ ws) own = ties_none ws (own + 1)

none_both : (ps qs : List Part) → flat_map part_flop ps ≡ [] → flat_map part_flop qs ≡ [] → flat_map part_flop (ps ++ qs) ≡ []
none_both ps qs first second =
    flat_map-append part_flop ps qs ∙ ap (λ (rs : List Flop). rs ++ flat_map part_flop qs) first ∙ second

pin_ties_none : (conns : List Conn) (pins : List (List ℕ)) (own : ℕ) → flat_map part_flop (pin_ties conns own pins) ≡ []
pin_ties_none conns [] own = refl
pin_ties_none conns (pin ∷ pins) own =
    none_both (ties own (wires_of conns pin)) (pin_ties conns (own + 1) pins) (ties_none (wires_of conns pin) own) (pin_ties_none conns pins (own + 1))

bit_ties_none : (first : ℕ) (bits : List ℕ) (ws : List Wire) → flat_map part_flop (bit_ties first bits ws) ≡ []
bit_ties_none first [] ws = refl
bit_ties_none first (bit ∷ bits) [] = refl
bit_ties_none first (bit ∷ bits) (w ∷ ws) =
    none_both (ties (first + bit) (w ∷ [])) (bit_ties first bits ws) (ties_none (w ∷ []) (first + bit)) (bit_ties_none first bits ws)

port_ties_none : (first : ℕ) (conns : List Conn) (ports : List Port)
    → flat_map part_flop (flat_map (λ (p : Port). bit_ties first p.bits (wires_of conns p.name)) ports) ≡ []
port_ties_none first conns [] = refl
port_ties_none first conns (p ∷ ps) =
    none_both (bit_ties first p.bits (wires_of conns p.name)) (flat_map (λ (p : Port). bit_ties first p.bits (wires_of conns p.name)) ps)
    (bit_ties_none first p.bits (wires_of conns p.name)) (port_ties_none first conns ps)

last_is : (ps : List Part) (p : Part) → last_part (ps ++ p ∷ []) ≡ Some p
last_is [] p = refl
last_is (x ∷ []) p = refl
last_is (x ∷ y ∷ ys) p = last_is (y ∷ ys) p

-- constants and a part: the leaf has the part's register
one_leaf : (front : List Part) (p : Part) (full : List ℕ) (cell : Option Cell) → flat_map part_flop front ≡ []
    → IsShaped (record { name = full; cell = cell; part = p }) → AreLeavesOf (front ++ p ∷ []) (leaf_if_any full cell (last_part (front ++ p ∷ [])))
one_leaf front p full cell none shaped =
    let leaf : Leaf = record { name = full; cell = cell; part = p } in
    rw (last_is front p) (record {
      flops = flat_map-append part_flop front (p ∷ []) ∙ ap (λ (rs : List Flop). rs ++ flat_map part_flop (p ∷ [])) none;
      shaped = All-cons IsShaped leaf [] shaped (all_none IsShaped);
    })

-- constants and a part without a register, which is no leaf
no_leaf : (front : List Part) (p : Part) → flat_map part_flop front ≡ [] → part_flop p ≡ [] → AreLeavesOf (front ++ p ∷ []) []
no_leaf front p none comb = record {
  flops = none_both front (p ∷ []) none (with_none (part_flop p) ∙ comb);
  shaped = all_none IsShaped;
}

cell_leaves_are : (nets : List ℕ) (conns : List Conn) (first : ℕ) (full : List ℕ) (c : Cell) (k : CellKind) → c.kind ≡ k
    → AreLeavesOf (cell_ties conns first c ++ cell_part nets conns first c)
    (leaf_if_any full (Some c) (last_part (cell_ties conns first c ++ cell_part nets conns first c)))
cell_leaves_are nets conns first full c (kind.Comb outs) is =
    let front = pin_ties conns first c.inputs in
    let own = comb_part nets conns first c outs in
    let ties_are : cell_ties conns first c ≡ front = rw is refl in
    let part_is : cell_part nets conns first c ≡ own ∷ [] = rw is refl in
    let whole : cell_ties conns first c ++ cell_part nets conns first c ≡ front ++ own ∷ [] =
    ap (λ (ps : List Part). ps ++ cell_part nets conns first c) ties_are ∙ ap (λ (ps : List Part). front ++ ps) part_is in
    subst (λ (ps : List Part). AreLeavesOf ps (leaf_if_any full (Some c) (last_part ps))) (sym whole)
    (one_leaf front own full (Some c) (pin_ties_none conns c.inputs first) (record {
      pins = λ d same. length_pin_nets nets conns c.inputs first ∙ (let e : c ≡ d = cc in ap (λ (x : Cell). length x.inputs) e);
    }))
cell_leaves_are nets conns first full c (kind.Flop f) is =
    let front = flop_ties conns first c f in
    let own = flop_part nets conns first c f in
    let ties_are : cell_ties conns first c ≡ front = rw is refl in
    let part_is : cell_part nets conns first c ≡ own ∷ [] = rw is refl in
    let whole : cell_ties conns first c ++ cell_part nets conns first c ≡ front ++ own ∷ [] =
    ap (λ (ps : List Part). ps ++ cell_part nets conns first c) ties_are ∙ ap (λ (ps : List Part). front ++ ps) part_is in
    subst (λ (ps : List Part). AreLeavesOf ps (leaf_if_any full (Some c) (last_part ps))) (sym whole)
    (one_leaf front own full (Some c)
    (none_both (pin_ties conns first c.inputs) (ties (outs_from first c + length f.outs) (wires_of conns f.clock)) (pin_ties_none conns c.inputs first)
    (ties_none (wires_of conns f.clock) (outs_from first c + length f.outs))) (record {
      pins = λ d same. length_pin_nets nets conns c.inputs first ∙ (let e : c ≡ d = cc in ap (λ (x : Cell). length x.inputs) e);
    }))
cell_leaves_are nets conns first full c (kind.Gate g) is =
    let front = gate_ties conns first c g in
    let own = gate_part nets conns first c g in
    let ties_are : cell_ties conns first c ≡ front = rw is refl in
    let part_is : cell_part nets conns first c ≡ own ∷ [] = rw is refl in
    let whole : cell_ties conns first c ++ cell_part nets conns first c ≡ front ++ own ∷ [] =
    ap (λ (ps : List Part). ps ++ cell_part nets conns first c) ties_are ∙ ap (λ (ps : List Part). front ++ ps) part_is in
    subst (λ (ps : List Part). AreLeavesOf ps (leaf_if_any full (Some c) (last_part ps))) (sym whole)
    (one_leaf front own full (Some c)
    (none_both (pin_ties conns first c.inputs) (ties (outs_from first c + 1) (wires_of conns g.clock)) (pin_ties_none conns c.inputs first)
    (ties_none (wires_of conns g.clock) (outs_from first c + 1))) (record {
      pins = λ d same. length_pin_nets nets conns c.inputs first ∙ (let e : c ≡ d = cc in ap (λ (x : Cell). length x.inputs) e);
    }))
cell_leaves_are nets conns first full c (kind.Other o) is =
    let none : cell_ties conns first c ++ cell_part nets conns first c ≡ [] = rw is refl in
    subst (λ (ps : List Part). AreLeavesOf ps (leaf_if_any full (Some c) (last_part ps))) (sym none)
    (record { flops = refl; shaped = all_none IsShaped })

-- the parts of an instance
abbrev found_parts : List ℕ → List Conn → ℕ → Option Module → Option Cell → List Part
found_parts nets conns first found owned = elim found [
  | Some m ↦ flat_map (λ (p : Port). bit_ties first p.bits (wires_of conns p.name)) m.ports
  | None ↦ elim owned [ None ↦ [] | Some c ↦ cell_ties conns first c ++ cell_part nets conns first c ]
]

inst_leaves : (nets : List ℕ) (conns : List Conn) (first : ℕ) (full : List ℕ) (found : Option Module) (owned : Option Cell) (parts : List Part)
    → parts ≡ found_parts nets conns first found owned
    → AreLeavesOf parts (elim found [
      | Some m ↦ []
      | None ↦ elim owned [ None ↦ [] | Some c ↦ leaf_if_any full (Some c) (last_part parts) ]
    ])
inst_leaves nets conns first full (Some m) owned parts is =
    subst (λ (ps : List Part). AreLeavesOf ps []) (sym is) (record { flops = port_ties_none first conns m.ports; shaped = all_none IsShaped })
inst_leaves nets conns first full None None parts is =
    subst (λ (ps : List Part). AreLeavesOf ps []) (sym is) (record { flops = refl; shaped = all_none IsShaped })
inst_leaves nets conns first full None (Some c) parts is =
    subst (λ (ps : List Part). AreLeavesOf ps (leaf_if_any full (Some c) (last_part ps))) (sym is) (cell_leaves_are nets conns first full c c.kind refl)

prim_leaves : (front : List Part) (p : Part) (prefix : List ℕ) (name : Option (List ℕ)) → flat_map part_flop front ≡ [] → part_flop p ≡ []
    → AreLeavesOf (front ++ p ∷ [])
    (elim name [ None ↦ [] | Some n ↦ leaf_if_any (prefix ++ n) None (last_part (front ++ p ∷ [])) ])
prim_leaves front p prefix None none comb = no_leaf front p none comb
prim_leaves front p prefix (Some n) none comb = one_leaf front p (prefix ++ n) None none (record { pins = λ c same. cc })

-- the leaf of an item
item_leaves : (s : Source) (lib : Library) (scope : Scope) (first : ℕ) (i : Item)
    → AreLeavesOf (item_parts s lib scope.nets first i) (leaves_of s lib (record { scope = scope; item = i; first = first }))
unfolding leaves_of inst_parts
item_leaves s lib scope first (item.Inst cell name conns) =
    inst_leaves scope.nets conns first (scope.prefix ++ name) (module_of s cell) (cell_of lib cell) (inst_parts s lib scope.nets conns first cell) refl
item_leaves s lib scope first (item.Prim k name outs ins) =
    let pins = wire_nets scope.nets first ins in
    prim_leaves (ties first ins) (part.Comb (is_buffer_prim k) pins (map (λ (out : ℕ). prim_gate k pins (slice_index scope.nets out)) outs)) scope.prefix name
    (ties_none ins first) refl
item_leaves s lib scope first (item.Copy to from) =
    let pins = wire_net scope.nets first from ∷ [] in
    no_leaf (ties first (from ∷ [])) (part.Comb true pins (prim_gate prim.Buf pins (slice_index scope.nets to) ∷ [])) (ties_none (from ∷ []) first) refl

-- the leaves of all items
pub flat_leaves : (s : Source) (lib : Library) (items : List Located) → AreLeavesOf (flat_map (parts_of s lib) items) (flat_map (leaves_of s lib) items)
flat_leaves s lib [] = record { flops = refl; shaped = all_none IsShaped }
flat_leaves s lib (at ∷ ats) =
    let here = item_leaves s lib at.scope at.first at.item in
    let rest = flat_leaves s lib ats in
    record {
      flops = flat_map-append part_flop (parts_of s lib at) (flat_map (parts_of s lib) ats)
          ∙ ap (λ (rs : List Flop). rs ++ flat_map part_flop (flat_map (parts_of s lib) ats)) here.flops
          ∙ ap (λ (rs : List Flop). flat_map leaf_flop (leaves_of s lib at) ++ rs) rest.flops
          ∙ sym (flat_map-append leaf_flop (leaves_of s lib at) (flat_map (leaves_of s lib) ats));
      shaped = All-append IsShaped (leaves_of s lib at) (flat_map (leaves_of s lib) ats) here.shaped rest.shaped;
    }

-- registers by parts
regs_by : (ps : List Part) → flat_map part_regs ps ≡ map (λ (f : Flop). f.reg) (flat_map part_flop ps)
regs_by [] = refl
regs_by (part.Comb buffer ins gates ∷ ps) = regs_by ps
regs_by (part.Flop clock reg ∷ ps) = ap (λ (rs : List Reg). reg ∷ rs) (regs_by ps)
regs_by (part.Gate clock enables out ∷ ps) = regs_by ps

by_parts : {X : Type 0} (f : Part → List X) (ls : List Leaf) → flat_map (λ (l : Leaf). f l.part) ls ≡ flat_map f (map (λ (l : Leaf). l.part) ls)
by_parts f [] = refl
by_parts f (l ∷ ls) = ap (λ xs. f l.part ++ xs) (by_parts f ls)

-- the registers of parts are those of their leaves
pub same_regs : (parts : List Part) (ls : List Leaf) → AreLeavesOf parts ls → flat_map part_regs parts ≡ flat_map leaf_regs ls
same_regs parts ls are =
    let reg : Flop → Reg = λ f. f.reg in
    regs_by parts ∙ ap (λ (fs : List Flop). map reg fs) (are.flops ∙ by_parts part_flop ls) ∙ sym (regs_by (map (λ (l : Leaf). l.part) ls))
    ∙ sym (by_parts part_regs ls)

-- the part of a leaf is one of the circuit
abbrev pub HasPart : List Part → Leaf → Type 0
HasPart parts l = In l.part parts

pub leaf_parts : (lib : Library) (parts : List Part) (places : List LeafPlace) (found : List Leaf) → AreLeavesAt lib parts places found
    → All (HasPart parts) found
leaf_parts lib parts [] [] at = all_none (HasPart parts)
leaf_parts lib parts [] (l ∷ ls) at = absurd at
leaf_parts lib parts (x ∷ xs) [] at = absurd at
leaf_parts lib parts (x ∷ xs) (l ∷ ls) at =
    All-cons (HasPart parts) l ls (In-from_Contains parts l.part (contains_at parts x.part l.part at.0.part)) (leaf_parts lib parts xs ls at.1)

cell_is : (lib : Library) (place : Option ℕ) (found : Option Cell) → IsCellAt lib place found → cell_at lib place ≡ found
cell_is lib None found at = sym at
cell_is lib (Some place) found at = at

leaf_is : (lib : Library) (parts : List Part) (x : LeafPlace) (l : Leaf) → IsLeafAt lib parts x l → leaf_at lib parts x ≡ l
leaf_is lib parts x l at =
    let build = λ (n : List ℕ) (c : Option Cell) (p : Part). let r : Leaf = record { name = n; cell = c; part = p } in r in
    let p = slice_index_or parts x.part (part.Comb false [] []) in
    ap (λ (n : List ℕ). build n (cell_at lib x.cell) p) at.name ∙ ap (λ (c : Option Cell). build l.name c p) (cell_is lib x.cell l.cell at.cell)
    ∙ ap (λ (q : Part). build l.name l.cell q) (get_or_from_slice_get parts x.part l.part (part.Comb false [] []) at.part)

-- leaves by their places
pub leaves_are : (lib : Library) (parts : List Part) (places : List LeafPlace) (found : List Leaf) → AreLeavesAt lib parts places found
    → map (leaf_at lib parts) places ≡ found
leaves_are lib parts [] [] at = refl
leaves_are lib parts [] (l ∷ ls) at = absurd at
leaves_are lib parts (x ∷ xs) [] at = absurd at
leaves_are lib parts (x ∷ xs) (l ∷ ls) at =
    ap (λ (m : Leaf). m ∷ map (leaf_at lib parts) xs) (leaf_is lib parts x l at.0) ∙ ap (λ (ms : List Leaf). l ∷ ms) (leaves_are lib parts xs ls at.1)

-- the part of each leaf has a place
pub leaf_places : (lib : Library) (parts : List Part) (places : List LeafPlace) (found : List Leaf) → AreLeavesAt lib parts places found
    → All (λ (x : LeafPlace). x.part < length parts) places
leaf_places lib parts [] [] at = all_none (λ (x : LeafPlace). x.part < length parts)
leaf_places lib parts [] (l ∷ ls) at = absurd at
leaf_places lib parts (x ∷ xs) [] at = absurd at
leaf_places lib parts (x ∷ xs) (l ∷ ls) at =
    All-cons (λ (y : LeafPlace). y.part < length parts) x xs (slice_get_within parts x.part l.part at.0.part) (leaf_places lib parts xs ls at.1)
