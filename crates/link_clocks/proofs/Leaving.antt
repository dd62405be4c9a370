-- What is left on the clock, part by part and leaf by leaf, and the cells that are cut out.
use Rattle.std.proofs.Common.{◌≡◌, ℕ, zero, suc, ◌+◌, ◌<◌, ◌≤◌, Bool, true, false, not, List, [], ◌∷◌, ◌++◌, length, take, drop, set, get_or, map, zip, All}
use Rattle.std.proofs.Common.{Some, None, refl, ap, subst, sym, ◌∙◌, arith, inl, inr}
use Rattle.std.specs.Prelude.{Option, slice_get, filter, flat_map, if◌then◌else◌}
use Rattle.std.proofs.lemmas.List.Edits.{map_over_more}
use Rattle.std.proofs.lemmas.List.Elements.{All-nil, All-append}
use Rattle.net_model.specs.Netlist.{AllBelow, reg_nets}
use Rattle.net_model.proofs.Members.{In, from_map}
use Rattle.cell_types.specs.declared.libraries.Cell.{Cell}
use Rattle.cell_types.specs.declared.libraries.Library.{Library}
use Rattle.link_defs.specs.declared.circuits.Circuit.{Circuit}
use Rattle.link_defs.specs.declared.circuits.Part.{Part}
use Rattle.link_defs.specs.declared.circuits.Part.TheVariants as part
use Rattle.link_defs.specs.declared.cuts.CutCell.{CutCell}
use Rattle.link_defs.specs.declared.cuts.CutPin.{CutPin}
use Rattle.link_defs.specs.declared.cuts.Way.{Way}
use Rattle.link_defs.specs.declared.cuts.Way.TheVariants as way
use Rattle.link_defs.specs.CellNames.{Leaf, clock_pins, out_pins}
use Rattle.link_defs.specs.Cuts.{IsEven}
use Rattle.link_defs.specs.Judged.{FlatNetlist, is_off, on_clock, is_leaf_off, is_leaf_on, pin_at, pins_at, off_pins, off_cell, off_clock}
use Rattle.link_design.specs.Lawful.{IsLawfulCircuit, IsLawfulPart, IsLawfulGate}
use Rattle.link_design.proofs.Parted.{all_in, all_from_in}
use Rattle.link_items.specs.declared.made.LeafPlace.{LeafPlace}
use Rattle.link_items.specs.Items.{IsLeafAt, AreLeavesAt}
use Rattle.link_items.proofs.Listing.{all_at}
use Rattle.link_clocks.specs.declared.netlists.CutNetlist.{CutNetlist}
use Rattle.link_clocks.specs.Netlists.{IsNetlist, IsJudgedOf, AreCellsBelow}
use Rattle.link_clocks.specs.Offs.{is_place_off, is_place_on, off_cells}

-- pins with one name more
pins_suc : (w : Way) (names : List (List ℕ)) (nets : List ℕ) (k : ℕ) (name : List ℕ) (n : ℕ) → slice_get names k ≡ Some name
    → slice_get nets k ≡ Some n → pins_at w (take (suc k) names) nets ≡ pins_at w (take k names) nets ++ pin_at w (name, n) ∷ []
pins_suc w [] nets k name n at at_net = cc
pins_suc w (x ∷ xs) [] k name n at at_net = cc
pins_suc w (x ∷ xs) (m ∷ ms) zero name n at at_net =
    let same : x ≡ name = cc in
    let same_net : m ≡ n = cc in
    ap (λ (y : List ℕ). pin_at w (y, m) ∷ []) same ∙ ap (λ (i : ℕ). pin_at w (name, i) ∷ []) same_net
pins_suc w (x ∷ xs) (m ∷ ms) (suc k) name n at at_net = ap (λ (ps : List CutPin). pin_at w (x, m) ∷ ps) (pins_suc w xs ms k name n at at_net)

pub pins_next : (w : Way) (names : List (List ℕ)) (nets : List ℕ) (k : ℕ) (name : List ℕ) (n : ℕ) → slice_get names k ≡ Some name
    → slice_get nets k ≡ Some n → pins_at w (take (k + 1) names) nets ≡ pins_at w (take k names) nets ++ pin_at w (name, n) ∷ []
pins_next w names nets k name n at at_net =
    let one : k + 1 ≡ suc k = omega arith in
    ap (λ (i : ℕ). pins_at w (take i names) nets) one ∙ pins_suc w names nets k name n at at_net

-- and with one to which there is no net
past_suc : (w : Way) (names : List (List ℕ)) (nets : List ℕ) (k : ℕ) → length nets ≤ k
    → pins_at w (take (suc k) names) nets ≡ pins_at w (take k names) nets
past_suc w [] nets zero past = refl
past_suc w [] nets (suc k) past = refl
past_suc w (x ∷ xs) [] zero past = refl
past_suc w (x ∷ xs) [] (suc k) past = refl
past_suc w (x ∷ xs) (m ∷ ms) zero past = absurd (omega (arith, past))
past_suc w (x ∷ xs) (m ∷ ms) (suc k) past = ap (λ (ps : List CutPin). pin_at w (x, m) ∷ ps) (past_suc w xs ms k (omega (arith, past)))

pub pins_past : (w : Way) (names : List (List ℕ)) (nets : List ℕ) (k : ℕ) → length nets ≤ k
    → pins_at w (take (k + 1) names) nets ≡ pins_at w (take k names) nets
pins_past w names nets k past =
    let one : k + 1 ≡ suc k = omega arith in ap (λ (i : ℕ). pins_at w (take i names) nets) one ∙ past_suc w names nets k past

-- nets of pins
in_zip : (names : List (List ℕ)) (nets : List ℕ) (x : List ℕ × ℕ) → In x (zip names nets) → In x.1 nets
in_zip [] nets x has = absurd has
in_zip (n ∷ ns) [] x has = absurd has
in_zip (n ∷ ns) (m ∷ ms) x (inl same) = inl (ap (λ (p : List ℕ × ℕ). p.1) same)
in_zip (n ∷ ns) (m ∷ ms) x (inr later) = inr (in_zip ns ms x later)

abbrev IsPinBelow : ℕ → CutPin → Type 0
IsPinBelow nets p = p.net < nets

pins_below : (nets : ℕ) (w : Way) (names : List (List ℕ)) (ns : List ℕ) → AllBelow nets ns → All (IsPinBelow nets) (pins_at w names ns)
pins_below nets w names ns below = all_from_in (IsPinBelow nets) (pins_at w names ns) (λ p has.
    let (x, there, same) = from_map (pin_at w) p (zip names ns) has in
    let lt = all_in (λ (n : ℕ). n < nets) ns below x.1 (in_zip names ns x there) in
    subst (λ (q : CutPin). q.net < nets) same lt)

one_below : (nets n : ℕ) → n < nets → AllBelow nets (n ∷ [])
one_below nets n lt = all_from_in (λ (m : ℕ). m < nets) (n ∷ []) (λ m has. elim has [
  | inl same ↦ omega (arith, lt, same)
  | inr none ↦ absurd none
])

off_below : (nets : ℕ) (c : Cell) (p : Part) → IsLawfulPart nets p → All (IsPinBelow nets) (off_pins c p)
off_below nets c (part.Comb buffer ins gates) lawful = All-nil (IsPinBelow nets)
off_below nets c (part.Flop clock reg) lawful =
    let ins = pins_at way.In c.inputs reg.ins in
    let clocks = pins_at way.In (clock_pins c.kind) (clock ∷ []) in
    All-append (IsPinBelow nets) (ins ++ clocks) (pins_at way.Out (out_pins c.kind) (reg_nets reg))
    (All-append (IsPinBelow nets) ins clocks (pins_below nets way.In c.inputs reg.ins lawful.reads)
    (pins_below nets way.In (clock_pins c.kind) (clock ∷ []) (one_below nets clock lawful.clock_net)))
    (pins_below nets way.Out (out_pins c.kind) (reg_nets reg) lawful.outs)
off_below nets c (part.Gate clock enables out) lawful =
    let ins = pins_at way.In c.inputs enables in
    let clocks = pins_at way.In (clock_pins c.kind) (clock ∷ []) in
    All-append (IsPinBelow nets) (ins ++ clocks) (pins_at way.Out (out_pins c.kind) (out ∷ []))
    (All-append (IsPinBelow nets) ins clocks (pins_below nets way.In c.inputs enables lawful.reads)
    (pins_below nets way.In (clock_pins c.kind) (clock ∷ []) (one_below nets clock lawful.clock_net)))
    (pins_below nets way.Out (out_pins c.kind) (out ∷ []) (one_below nets out lawful.out_net))

-- the pins of the cell of a leaf
cell_below : (nets : ℕ) (name : List ℕ) (o : Option Cell) (p : Part) → IsLawfulPart nets p
    → AreCellsBelow nets (off_cell (record { name = name; cell = o; part = p }))
cell_below nets name None p lawful = All-nil (λ (x : CutCell). All (IsPinBelow nets) x.pins)
cell_below nets name (Some c) p lawful =
    let x : CutCell = record { cell = c.name; name = name; clocked = false; pins = off_pins c p; fault = None } in
    all_from_in (λ (y : CutCell). All (IsPinBelow nets) y.pins) (x ∷ []) (λ y has. elim has [
      | inl same ↦ subst (λ (z : CutCell). All (IsPinBelow nets) z.pins) same (off_below nets c p lawful)
      | inr none ↦ absurd none
    ])

cells_if : (nets : ℕ) (b : Bool) (l : Leaf) → AreCellsBelow nets (off_cell l) → AreCellsBelow nets (if b then off_cell l else [])
cells_if nets true l below = below
cells_if nets false l below = All-nil (λ (x : CutCell). All (IsPinBelow nets) x.pins)

pub off_cells_below : (lib : Library) (nets : ℕ) (even : List Bool) (parts : List Part) (places : List LeafPlace) (found : List Leaf)
    → All (IsLawfulPart nets) parts → AreLeavesAt lib parts places found → AreCellsBelow nets (flat_map (off_cells even) found)
off_cells_below lib nets even parts [] [] lawful all = All-nil (λ (x : CutCell). All (IsPinBelow nets) x.pins)
off_cells_below lib nets even parts [] (l ∷ ls) lawful all = absurd all
off_cells_below lib nets even parts (x ∷ xs) [] lawful all = absurd all
off_cells_below lib nets even parts (x ∷ xs) (l ∷ ls) lawful all =
    let own = all_at (IsLawfulPart nets) parts lawful x.part l.part all.0.part in
    All-append (λ (y : CutCell). All (IsPinBelow nets) y.pins) (off_cells even l) (flat_map (off_cells even) ls)
    (cells_if nets (is_leaf_off even l) l (cell_below nets l.name l.cell l.part own))
    (off_cells_below lib nets even parts xs ls lawful all.1)

-- cells leaf by leaf are those of the leaves that are off
cells_by : (b : Bool) (l : Leaf) (ls : List Leaf)
    → (if b then off_cell l else []) ++ flat_map off_cell ls ≡ flat_map off_cell (if b then l ∷ ls else ls)
cells_by true l ls = refl
cells_by false l ls = refl

pub off_cells_are : (even : List Bool) (found : List Leaf) → flat_map (off_cells even) found ≡ flat_map off_cell (filter (is_leaf_off even) found)
off_cells_are even [] = refl
off_cells_are even (l ∷ ls) =
    ap (λ (xs : List CutCell). off_cells even l ++ xs) (off_cells_are even ls) ∙ cells_by (is_leaf_off even l) l (filter (is_leaf_off even) ls)

-- nothing is left of a part, or it is left
off_then : (even : List Bool) (p : Part) → is_off even p ≡ true → on_clock even p ≡ part.Comb false [] []
off_then even p off = ap (λ (b : Bool). if b then part.Comb false [] [] else p) off

pub off_else : (even : List Bool) (p : Part) → is_off even p ≡ false → on_clock even p ≡ p
off_else even p off = ap (λ (b : Bool). if b then part.Comb false [] [] else p) off

set_self : (xs : List Part) (k : ℕ) (p : Part) → k < length xs → p ≡ get_or xs k p → set xs k p ≡ xs
set_self [] k p lt at = absurd (omega arith)
set_self (x ∷ xs) zero p lt at = ap (λ (q : Part). q ∷ xs) at
set_self (x ∷ xs) (suc k) p lt at = ap (λ (qs : List Part). x ∷ qs) (set_self xs k p (omega (arith, lt)) at)

-- one part more
parts_more : (even : List Bool) (parts left : List Part) (k : ℕ) (p : Part) → k < length parts
    → left ≡ map (on_clock even) (take k parts) ++ drop k parts → p ≡ get_or left k p
    → set left k (on_clock even p) ≡ map (on_clock even) (take (k + 1) parts) ++ drop (k + 1) parts
parts_more even parts left k p lt is at = map_over_more (on_clock even) parts left k p lt is at

pub parts_then : (even : List Bool) (parts left new : List Part) (k : ℕ) (p : Part) → k < length parts
    → left ≡ map (on_clock even) (take k parts) ++ drop k parts → p ≡ get_or left k p → is_off even p ≡ true
    → new ≡ set left k (part.Comb false [] []) → new ≡ map (on_clock even) (take (k + 1) parts) ++ drop (k + 1) parts
parts_then even parts left new k p lt is at off new_is =
    new_is ∙ ap (λ (q : Part). set left k q) (sym (off_then even p off)) ∙ parts_more even parts left k p lt is at

pub parts_else : (even : List Bool) (parts left new : List Part) (k : ℕ) (p : Part) → k < length parts
    → k < length left → left ≡ map (on_clock even) (take k parts) ++ drop k parts → p ≡ get_or left k p → is_off even p ≡ false
    → new ≡ left → new ≡ map (on_clock even) (take (k + 1) parts) ++ drop (k + 1) parts
parts_else even parts left new k p lt within is at off new_is =
    new_is ∙ sym (set_self left k p within at) ∙ ap (λ (q : Part). set left k q) (sym (off_else even p off)) ∙ parts_more even parts left k p lt is at

-- there are as many parts as before
mid_len : (even : List Bool) (parts : List Part) (k : ℕ) → length (map (on_clock even) (take k parts) ++ drop k parts) ≡ length parts
mid_len even [] zero = refl
mid_len even [] (suc k) = refl
mid_len even (p ∷ ps) zero = refl
mid_len even (p ∷ ps) (suc k) = let more = mid_len even ps k in omega (arith, more)

pub left_len : (even : List Bool) (parts left : List Part) (k : ℕ) → left ≡ map (on_clock even) (take k parts) ++ drop k parts → length left ≡ length parts
left_len even parts left k is = ap (λ (ps : List Part). length ps) is ∙ mid_len even parts k

-- the circuit that is left is lawful
part_left : (nets : ℕ) (p : Part) (b : Bool) → IsLawfulPart nets p → IsLawfulPart nets (if b then part.Comb false [] [] else p)
part_left nets p true lawful = record {
  reads = All-nil (λ (n : ℕ). n < nets);
  few = omega arith;
  one = λ e. absurd (let wrong = e in cc);
  drives = All-nil (IsLawfulGate nets []);
}
part_left nets p false lawful = lawful

pub lawful_left : (even : List Bool) (c : Circuit) → IsLawfulCircuit c → IsLawfulCircuit (record c { parts = map (on_clock even) c.parts })
lawful_left even c lawful = record {
  clocks = lawful.clocks;
  inputs = lawful.inputs;
  outputs = lawful.outputs;
  parts = all_from_in (IsLawfulPart c.nets) (map (on_clock even) c.parts) (λ q has.
      let (p, there, same) = from_map (on_clock even) q c.parts has in
      subst (IsLawfulPart c.nets) same (part_left c.nets p (is_off even p) (all_in (IsLawfulPart c.nets) c.parts lawful.parts p there)));
}

-- the leaves that are left stand at the parts that are left
map_get : (f : Part → Part) (ps : List Part) (k : ℕ) (p : Part) → slice_get ps k ≡ Some p → slice_get (map f ps) k ≡ Some (f p)
map_get f [] k p at = cc
map_get f (x ∷ xs) zero p at = let same : x ≡ p = cc in ap (λ (q : Part). Some (f q)) same
map_get f (x ∷ xs) (suc k) p at = map_get f xs k p at

place_off : (even : List Bool) (parts : List Part) (x : LeafPlace) (p : Part) → slice_get parts x.part ≡ Some p → is_place_off even parts x ≡ is_off even p
place_off even parts x p at = ap (λ (o : Option Part). elim o [ None ↦ false | Some q ↦ is_off even q ]) at

leaf_left : (lib : Library) (even : List Bool) (parts : List Part) (x : LeafPlace) (l : Leaf) → IsLeafAt lib parts x l → is_leaf_off even l ≡ false
    → IsLeafAt lib (map (on_clock even) parts) x l
leaf_left lib even parts x l at stays = record {
  name = at.name;
  cell = at.cell;
  part = map_get (on_clock even) parts x.part l.part at.part ∙ ap (λ (p : Part). Some p) (off_else even l.part stays);
}

leaves_if : (lib : Library) (parts : List Part) (b : Bool) (x : LeafPlace) (l : Leaf) (xs : List LeafPlace) (ls : List Leaf)
    → (b ≡ false → IsLeafAt lib parts x l) → AreLeavesAt lib parts xs ls
    → AreLeavesAt lib parts (if not b then x ∷ xs else xs) (if not b then l ∷ ls else ls)
leaves_if lib parts true x l xs ls here later = later
leaves_if lib parts false x l xs ls here later = (here refl, later)

pub leaves_left : (lib : Library) (even : List Bool) (parts : List Part) (places : List LeafPlace) (found : List Leaf) → AreLeavesAt lib parts places found
    → AreLeavesAt lib (map (on_clock even) parts) (filter (is_place_on even parts) places) (filter (is_leaf_on even) found)
leaves_left lib even parts [] [] all = all
leaves_left lib even parts [] (l ∷ ls) all = absurd all
leaves_left lib even parts (x ∷ xs) [] all = absurd all
leaves_left lib even parts (x ∷ xs) (l ∷ ls) all =
    let later = leaves_left lib even parts xs ls all.1 in
    let left = filter (is_place_on even parts) xs in
    let on = filter (is_leaf_on even) ls in
    subst (λ (b : Bool). AreLeavesAt lib (map (on_clock even) parts) (if not b then x ∷ left else left) (filter (is_leaf_on even) (l ∷ ls)))
    (sym (place_off even parts x l.part all.0.part))
    (leaves_if lib (map (on_clock even) parts) (is_leaf_off even l) x l left on (λ stays. leaf_left lib even parts x l all.0 stays) later)

-- cells of the first leaves and of the next one
pub leaf_at : (lib : Library) (parts : List Part) (places : List LeafPlace) (found : List Leaf) (k : ℕ) (x : LeafPlace) → AreLeavesAt lib parts places found
    → slice_get places k ≡ Some x → (l : Leaf) × (slice_get found k ≡ Some l) × IsLeafAt lib parts x l
leaf_at lib parts [] [] k x all at = cc
leaf_at lib parts [] (l ∷ ls) k x all at = absurd all
leaf_at lib parts (y ∷ ys) [] k x all at = absurd all
leaf_at lib parts (y ∷ ys) (l ∷ ls) zero x all at =
    let same : y ≡ x = cc in (l, refl, subst (λ (z : LeafPlace). IsLeafAt lib parts z l) same all.0)
leaf_at lib parts (y ∷ ys) (l ∷ ls) (suc k) x all at = leaf_at lib parts ys ls k x all.1 at

pub place_is : (even : List Bool) (lib : Library) (parts : List Part) (x : LeafPlace) (l : Leaf) → IsLeafAt lib parts x l
    → is_place_off even parts x ≡ is_leaf_off even l
place_is even lib parts x l at = place_off even parts x l.part at.part

pub cells_then : (even : List Bool) (l : Leaf) → is_leaf_off even l ≡ true → off_cell l ≡ off_cells even l
cells_then even l off = sym (ap (λ (b : Bool). if b then off_cell l else []) off)

pub cells_else : (even : List Bool) (l : Leaf) → is_leaf_off even l ≡ false → off_cells even l ≡ []
cells_else even l off = ap (λ (b : Bool). if b then off_cell l else []) off

-- the netlist that is judged
pub judged_is : (lib : Library) (even : List Bool) (x k : CutNetlist) (n : FlatNetlist) → IsEven x.circuit even → IsNetlist lib x n
    → k.circuit ≡ (record x.circuit { parts = map (on_clock even) x.circuit.parts }) → k.leaves ≡ filter (is_place_on even x.circuit.parts) x.leaves
    → k.cells ≡ x.cells ++ flat_map (off_cells even) n.found → IsJudgedOf lib n k
judged_is lib even x k n even_is is circuit leaves cells = record {
  netlist = off_clock even n;
  judged = record { even = even; even_is = λ e. subst (λ (c : Circuit). IsEven c even) (sym is.circuit) even_is; is = refl };
  is = record {
    circuit = ap (λ (c : Circuit). record c { parts = map (on_clock even) c.parts }) is.circuit ∙ sym circuit;
    leaves =
        subst (λ (c : Circuit). AreLeavesAt lib c.parts k.leaves (filter (is_leaf_on even) n.found)) (sym circuit)
        (subst (λ (ls : List LeafPlace). AreLeavesAt lib (map (on_clock even) x.circuit.parts) ls (filter (is_leaf_on even) n.found)) (sym leaves)
        (leaves_left lib even x.circuit.parts x.leaves n.found is.leaves));
    cells =
        ap (λ (xs : List CutCell). xs ++ flat_map off_cell (filter (is_leaf_off even) n.found)) is.cells
        ∙ ap (λ (xs : List CutCell). x.cells ++ xs) (sym (off_cells_are even n.found)) ∙ sym cells;
  };
}

pub leaves_len : (lib : Library) (parts : List Part) (places : List LeafPlace) (found : List Leaf) → AreLeavesAt lib parts places found
    → length places ≡ length found
leaves_len lib parts [] [] all = refl
leaves_len lib parts [] (l ∷ ls) all = absurd all
leaves_len lib parts (x ∷ xs) [] all = absurd all
leaves_len lib parts (x ∷ xs) (l ∷ ls) all = let more = leaves_len lib parts xs ls all.1 in omega (arith, more)

-- the pins of all cells stand on nets of the circuit that is left
pub cells_left : (lib : Library) (even : List Bool) (x : CutNetlist) (left : Circuit) (cells : List CutCell) (n : FlatNetlist) → IsLawfulCircuit x.circuit
    → AreCellsBelow x.circuit.nets x.cells → IsNetlist lib x n → left ≡ (record x.circuit { parts = map (on_clock even) x.circuit.parts })
    → cells ≡ x.cells ++ flat_map (off_cells even) n.found → AreCellsBelow left.nets cells
cells_left lib even x left cells n lawful before is left_is cells_are =
    let nets = x.circuit.nets in
    let off = off_cells_below lib nets even x.circuit.parts x.leaves n.found lawful.parts is.leaves in
    let all = All-append (λ (y : CutCell). All (IsPinBelow nets) y.pins) x.cells (flat_map (off_cells even) n.found) before off in
    subst (λ (d : ℕ). AreCellsBelow d cells) (sym (ap (λ (c : Circuit). c.nets) left_is))
    (subst (λ (xs : List CutCell). AreCellsBelow nets xs) (sym cells_are) all)
