-- The names of cells that are cut out, by rows.
use Rattle.std.proofs.Common.{◌≡◌, ℕ, ◌+◌, ◌<◌, ◌≤◌, Bool, true, false, cond, ◌&&◌, List, [], ◌∷◌, ◌++◌, length, map, take, drop}
use Rattle.std.proofs.Common.{refl, ap, sym, ◌∙◌, subst, arith, get_or, Some, None, append_assoc, append-nil, inl, inr}
use Rattle.std.specs.Prelude.{nat_eq, filter, flat_map, slice_get}
use Rattle.std.specs.List.{position_or_len}
use Rattle.std.specs.Option.{option_map}
use Rattle.std.specs.Str.{bytes_eq}
use Rattle.std.proofs.lemmas.Bool.{and_parts, cases_Bool, cases_lt}
use Rattle.std.proofs.lemmas.List.{get_or_past, length-map, map_push, take_all}
use Rattle.std.proofs.lemmas.List.Elements.{filter_agree, filter-append}
use Rattle.std.proofs.lemmas.List.Sums.{sum_by_push, sum_by-cons}
use Rattle.std.proofs.lemmas.Option.{slice_get-map, slice_get-get_or}
use Rattle.sdcv_base.specs.Seqs.{is_marked}
use Rattle.linked_types.specs.declared.names.CellName.{CellName}
use Rattle.linked_types.specs.declared.names.PinName.{PinName}
use Rattle.linked_types.specs.declared.names.PinRole.{PinRole}
use Rattle.linked_types.specs.declared.names.PinRole.TheVariants as role
use Rattle.link_defs.specs.declared.circuits.Circuit.{Circuit}
use Rattle.link_defs.specs.declared.cuts.CutCell.{CutCell}
use Rattle.link_defs.specs.declared.cuts.CutPin.{CutPin}
use Rattle.link_defs.specs.Cuts.{OwnedPin, owned_by, owned_pins, net_of, may_drive, is_loose, free_nets, drives_free, owns, is_source, is_frame_sink, input_of}
use Rattle.link_defs.specs.Cuts.{cut_role, sink_count, cut_pin_names, cut_outs, cut_cell_name, cut_cell_names, is_clocked}
use Rattle.link_design.specs.Trees.{tree_of}
use Rattle.link_items.proofs.Listing.{drop_next, drop_past, take_next}
use Rattle.link_cuts.specs.declared.namings.Naming.{Naming}
use Rattle.link_cuts.specs.declared.places.PinPlace.{PinPlace}
use Rattle.link_cuts.specs.declared.rows.CutPins.{CutPins}
use Rattle.link_cuts.specs.Cutting.{cell_at, own_pin, pin_at, nets_at, is_sink_at, IsCutOut, IsInCells}
use Rattle.link_cuts.specs.Roles.{IsNamed, frame_of, number_in, drives_by, place_in, cell_of, owner_of, is_named, is_source_at, role_at, with_sink, outs_by}
use Rattle.link_cuts.proofs.Owned.{owner_first, named_at, passes}
use Rattle.link_cuts.proofs.Placed.{nets_are}
use Rattle.link_cuts.proofs.Sunk.{AreRows, clocked_same, sink_same}

rows_are : (n : Naming) (c : Circuit) → IsNamed n c → AreRows c n.cells.now n.pins.now.rows
rows_are n c out = record { driven = out.driven; free = out.free_row; clocked = out.clocked }

-- a pin drives a free net
drives_same : (n : Naming) (c : Circuit) (p : CutPin) → IsNamed n c → drives_by n.pins.now.rows p ≡ drives_free (frame_of n c) p
drives_same n c p out = ap (λ (b : Bool). may_drive p.way && b) (out.free_row.marks p.net)

-- it is a sink
sink_is : (n : Naming) (c : Circuit) (at : PinPlace) → IsNamed n c → IsInCells n.cells.now at
    → is_sink_at n.pins.now.rows n.cells.now at ≡ is_frame_sink (frame_of n c) (pin_at n.cells.now at)
sink_is n c at out inside = sink_same c n.cells.now n.pins.now.rows at (rows_are n c out) inside

marked_within : (row : List Bool) (net : ℕ) → is_marked row net ≡ true → net < length row
marked_within row net hit = elim (cases_lt net (length row)) [
  | inl lt ↦ lt
  | inr past ↦ (let e = sym (get_or_past row net false past) ∙ hit in cc)
]

-- the place of a free net
place_is : (n : Naming) (c : Circuit) (net : ℕ) → IsNamed n c → net < length n.pins.now.rows.free
    → place_in n net ≡ position_or_len (nat_eq net) (free_nets c n.cells.now)
place_is n c net out lt =
    let cells : List CutCell = n.cells.now in
    let nets : nets_at cells n.pins.now.free ≡ free_nets c cells = nets_are cells n.pins.now.free ∙ ap (map net_of) out.free in
    let len : length n.pins.now.free ≡ length (nets_at cells n.pins.now.free) =
    sym (length-map n.pins.now.free (λ (at : PinPlace). net_of (pin_at cells at))) in
    ap (get_or n.places net) len ∙ n.placed.each net lt ∙ ap (position_or_len (nat_eq net)) nets

-- and its owner
owner_is : (n : Naming) (c : Circuit) (x : CutCell) (net : ℕ) → IsNamed n c → net < length n.pins.now.rows.free
    → is_named x.name (owner_of n net) ≡ owns (frame_of n c) x net
owner_is n c x net out lt =
    let cells : List CutCell = n.cells.now in
    let test : OwnedPin → Bool = λ p. bytes_eq x.name p.cell.name in
    let place : ℕ = position_or_len (nat_eq net) (free_nets c cells) in
    ap (λ (k : ℕ). is_named x.name (cell_of cells (slice_get n.pins.now.free k))) (place_is n c net out lt)
    ∙ named_at cells n.pins.now.free x.name place out.free_at
    ∙ ap (λ (ps : List OwnedPin). passes test (slice_get ps place)) out.free
    ∙ sym (owner_first net test [] (filter (is_loose c) (flat_map owned_pins cells)))

and_same : (a b c d : Bool) → a ≡ b → (a ≡ true → c ≡ d) → (a && c) ≡ (b && d)
and_same true b c d same then = then refl ∙ ap (λ (e : Bool). e && d) same
and_same false b c d same then = ap (λ (e : Bool). e && d) same

-- a pin that drives a free net stands on a net of the row
drives_within : (n : Naming) (p : CutPin) → drives_by n.pins.now.rows p ≡ true → p.net < length n.pins.now.rows.free
drives_within n p hit = marked_within n.pins.now.rows.free p.net (and_parts (may_drive p.way) (is_marked n.pins.now.rows.free p.net) hit).1

-- the pin is a source
source_is : (n : Naming) (c : Circuit) (at : PinPlace) → IsNamed n c → IsInCells n.cells.now at
    → is_source_at n at ≡ is_source (frame_of n c) (pin_at n.cells.now at)
source_is n c at out inside =
    let x : CutCell = cell_at n.cells.now at.cell in
    let p : CutPin = own_pin x at.pin in
    let rest = and_same (drives_by n.pins.now.rows p) (drives_free (frame_of n c) p) (is_named x.name (owner_of n p.net)) (owns (frame_of n c) x p.net)
    (drives_same n c p out) (λ hit. owner_is n c x p.net out (drives_within n p hit)) in
    ap (λ (b : Bool). b && (drives_by n.pins.now.rows p && is_named x.name (owner_of n p.net)))
    (clocked_same c n.cells.now n.pins.now.rows at.cell (rows_are n c out) inside.cell)
    ∙ ap (λ (b : Bool). is_clocked (tree_of n.pins.now.rows.tree) x && b) rest

cond_same : (a b : Bool) (x y u v : PinRole) → a ≡ b → (a ≡ true → x ≡ y) → u ≡ v → cond a x u ≡ cond b y v
cond_same true b x y u v same then else_ = then refl ∙ ap (λ (e : Bool). cond e y v) same
cond_same false b x y u v same then else_ = else_ ∙ ap (λ (e : Bool). cond e y v) same

source_within : (n : Naming) (at : PinPlace) → is_source_at n at ≡ true → (own_pin (cell_at n.cells.now at.cell) at.pin).net < length n.pins.now.rows.free
source_within n at hit =
    let x : CutCell = cell_at n.cells.now at.cell in
    let p : CutPin = own_pin x at.pin in
    let inner = (and_parts (is_marked n.pins.now.rows.clocked at.cell) (drives_by n.pins.now.rows p && is_named x.name (owner_of n p.net)) hit).1 in
    drives_within n p (and_parts (drives_by n.pins.now.rows p) (is_named x.name (owner_of n p.net)) inner).0

-- what it is
pub role_is : (n : Naming) (c : Circuit) (sinks : ℕ) (at : PinPlace) → IsNamed n c → IsInCells n.cells.now at
    → role_at n sinks at ≡ cut_role (frame_of n c) sinks (pin_at n.cells.now at)
role_is n c sinks at out inside =
    let f = frame_of n c in
    let p : OwnedPin = pin_at n.cells.now at in
    let k = n.pins.now in
    let input : is_source_at n at ≡ true → ◌≡◌ {A = PinRole} (role.Source (k.inputs + place_in n p.pin.net)) (role.Source (input_of f p.pin.net)) =
    λ hit.
    ap (λ (i : ℕ). role.Source (i + place_in n p.pin.net)) out.inputs
    ∙ ap (λ (i : ℕ). role.Source (length c.inputs + i)) (place_is n c p.pin.net out (source_within n at hit)) in
    let output : ◌≡◌ {A = PinRole} (role.Sink (k.outputs + sinks)) (role.Sink (length c.outputs + sinks)) =
    ap (λ (i : ℕ). role.Sink (i + sinks)) out.outputs in
    let last : ◌≡◌ {A = PinRole} (cond (drives_by k.rows p.pin) (role.Drive (number_in n p.pin.net)) (role.Load []))
    (cond (drives_free f p.pin) (role.Drive (number_in n p.pin.net)) (role.Load [])) =
    ap (λ (b : Bool). cond {A = PinRole} b (role.Drive (number_in n p.pin.net)) (role.Load [])) (drives_same n c p.pin out) in
    cond_same (is_source_at n at) (is_source f p) _ _ _ _ (source_is n c at out inside) input
    (cond_same (is_sink_at k.rows n.cells.now at) (is_frame_sink f p) _ _ _ _ (sink_is n c at out inside) (λ hit. output) last)

-- the free nets that a cell may drive
pub outs_are : (n : Naming) (c : Circuit) (x : CutCell) → IsNamed n c → outs_by n x ≡ cut_outs (frame_of n c) x
outs_are n c x out =
    ap (map (λ (p : CutPin). number_in n p.net))
    (filter_agree (drives_by n.pins.now.rows) (drives_free (frame_of n c)) (λ p. drives_same n c p out) x.pins)

one_sink : (b : Bool) (sinks : ℕ) → cond b (sinks + 1) sinks ≡ sinks + (cond b 1 0 + 0)
one_sink true sinks = omega arith
one_sink false sinks = omega arith

-- how many sinks there are with a pin
sinks_with : (n : Naming) (c : Circuit) (sinks : ℕ) (at : PinPlace) → IsNamed n c → IsInCells n.cells.now at
    → with_sink n sinks at ≡ sinks + sink_count (frame_of n c) (pin_at n.cells.now at ∷ [])
sinks_with n c sinks at out inside =
    let f = frame_of n c in
    let p : OwnedPin = pin_at n.cells.now at in
    let one = sum_by-cons (λ (q : OwnedPin). cond {A = ℕ} (is_frame_sink f q) 1 0) p [] in
    ap (λ (b : Bool). cond b (sinks + 1) sinks) (sink_is n c at out inside) ∙ one_sink (is_frame_sink f p) sinks
    ∙ ap (λ (m : ℕ). sinks + m) (sym one)

-- a pin of a cell stands among its pins
pin_there : (x : CutCell) (k : ℕ) → k < length x.pins → slice_get (owned_pins x) k ≡ Some (owned_by x (own_pin x k))
pin_there x k lt = slice_get-map (owned_by x) x.pins k ∙ ap (option_map (owned_by x)) (slice_get-get_or x.pins k _ lt)

abbrev pub place : ℕ → ℕ → PinPlace
place cell pin = record { cell = cell; pin = pin }

-- a pin more by name
pub pins_step : (n : Naming) (c : Circuit) (cell k sinks count more : ℕ) (list new : List PinName) (named : PinName) → IsNamed n c
    → IsInCells n.cells.now (place cell k)
    → named ≡ record { name = (own_pin (cell_at n.cells.now cell) k).name; role = role_at n count (place cell k) } → new ≡ list ++ named ∷ []
    → more ≡ with_sink n count (place cell k)
    → cut_pin_names (frame_of n c) sinks (owned_pins (cell_at n.cells.now cell))
    ≡ list ++ cut_pin_names (frame_of n c) count (drop k (owned_pins (cell_at n.cells.now cell)))
    → cut_pin_names (frame_of n c) sinks (owned_pins (cell_at n.cells.now cell))
    ≡ new ++ cut_pin_names (frame_of n c) more (drop (k + 1) (owned_pins (cell_at n.cells.now cell)))
pins_step n c cell k sinks count more list new named out inside named_is new_is more_is so_far =
    let f = frame_of n c in
    let x : CutCell = cell_at n.cells.now cell in
    let ps : List OwnedPin = owned_pins x in
    let p : OwnedPin = owned_by x (own_pin x k) in
    let it : PinName = record { name = p.pin.name; role = cut_role f count p } in
    let same : named ≡ it =
    named_is ∙ ap (λ (r : PinRole). let q : PinName = record { name = p.pin.name; role = r } in q) (role_is n c count (place cell k) out inside) in
    let count_is : count + sink_count f (p ∷ []) ≡ more = sym (more_is ∙ sinks_with n c count (place cell k) out inside) in
    so_far ∙ ap (λ (qs : List OwnedPin). list ++ cut_pin_names f count qs) (drop_next ps k p (pin_there x k inside.pin))
    ∙ ap (λ (m : ℕ). list ++ it ∷ cut_pin_names f m (drop (k + 1) ps)) count_is
    ∙ sym (append_assoc list (it ∷ []) (cut_pin_names f more (drop (k + 1) ps)))
    ∙ ap (λ (q : PinName). (list ++ q ∷ []) ++ cut_pin_names f more (drop (k + 1) ps)) (sym same)
    ∙ ap (λ (qs : List PinName). qs ++ cut_pin_names f more (drop (k + 1) ps)) (sym new_is)

pub count_step : (n : Naming) (c : Circuit) (cell k sinks count more : ℕ) → IsNamed n c → IsInCells n.cells.now (place cell k)
    → more ≡ with_sink n count (place cell k) → count ≡ sinks + sink_count (frame_of n c) (take k (owned_pins (cell_at n.cells.now cell)))
    → more ≡ sinks + sink_count (frame_of n c) (take (k + 1) (owned_pins (cell_at n.cells.now cell)))
count_step n c cell k sinks count more out inside more_is so_far =
    let f = frame_of n c in
    let x : CutCell = cell_at n.cells.now cell in
    let ps : List OwnedPin = owned_pins x in
    let p : OwnedPin = owned_by x (own_pin x k) in
    let g : OwnedPin → ℕ = λ q. cond (is_frame_sink f q) 1 0 in
    let next : sink_count f (take (k + 1) ps) ≡ sink_count f (take k ps) + cond (is_frame_sink f p) 1 0 =
    ap (λ (qs : List OwnedPin). sink_count f qs) (take_next ps k p (pin_there x k inside.pin)) ∙ sum_by_push g (take k ps) p in
    let here : more ≡ count + (cond (is_frame_sink f p) 1 0 + 0) = more_is ∙ sinks_with n c count (place cell k) out inside
    ∙ ap (λ (m : ℕ). count + m) (sum_by-cons g p []) in
    omega (arith, next, here, so_far)

-- all pins are named
pub pins_done : (n : Naming) (c : Circuit) (cell k sinks count : ℕ) (list : List PinName) → length (cell_at n.cells.now cell).pins ≤ k
    → cut_pin_names (frame_of n c) sinks (owned_pins (cell_at n.cells.now cell))
    ≡ list ++ cut_pin_names (frame_of n c) count (drop k (owned_pins (cell_at n.cells.now cell)))
    → list ≡ cut_pin_names (frame_of n c) sinks (owned_pins (cell_at n.cells.now cell))
pins_done n c cell k sinks count list all is =
    let x : CutCell = cell_at n.cells.now cell in
    let past : drop k (owned_pins x) ≡ [] = drop_past (owned_pins x) k (omega (arith, length-map x.pins (owned_by x))) in
    sym (is ∙ ap (λ (qs : List OwnedPin). list ++ cut_pin_names (frame_of n c) count qs) past ∙ append-nil list)

pub count_done : (n : Naming) (c : Circuit) (cell k sinks count : ℕ) → length (cell_at n.cells.now cell).pins ≤ k
    → count ≡ sinks + sink_count (frame_of n c) (take k (owned_pins (cell_at n.cells.now cell)))
    → count ≡ sinks + sink_count (frame_of n c) (owned_pins (cell_at n.cells.now cell))
count_done n c cell k sinks count all is =
    let x : CutCell = cell_at n.cells.now cell in
    is ∙ ap (λ (qs : List OwnedPin). sinks + sink_count (frame_of n c) qs) (take_all k (owned_pins x) (omega (arith, length-map x.pins (owned_by x))))

-- a cell by name
pub cell_is : (n : Naming) (c : Circuit) (sinks : ℕ) (x : CutCell) (pins : List PinName) → IsNamed n c
    → pins ≡ cut_pin_names (frame_of n c) sinks (owned_pins x)
    → ◌≡◌ {A = CellName} (record { name = x.name; reg = None; outs = outs_by n x; pins = pins }) (cut_cell_name (frame_of n c) sinks x)
cell_is n c sinks x pins out is =
    ap (λ (ns : List ℕ). let y : CellName = record { name = x.name; reg = None; outs = ns; pins = pins } in y) (outs_are n c x out)
    ∙ ap (λ (ps : List PinName). let y : CellName = record { name = x.name; reg = None; outs = cut_outs (frame_of n c) x; pins = ps } in y) is

-- a cell more by name
pub cells_step : (n : Naming) (c : Circuit) (k count more : ℕ) (list new : List CellName) (named : CellName) → k < length n.cells.now
    → named ≡ cut_cell_name (frame_of n c) count (cell_at n.cells.now k) → new ≡ list ++ named ∷ []
    → more ≡ count + sink_count (frame_of n c) (owned_pins (cell_at n.cells.now k))
    → cut_cell_names (frame_of n c) 0 n.cells.now ≡ list ++ cut_cell_names (frame_of n c) count (drop k n.cells.now)
    → cut_cell_names (frame_of n c) 0 n.cells.now ≡ new ++ cut_cell_names (frame_of n c) more (drop (k + 1) n.cells.now)
cells_step n c k count more list new named lt named_is new_is more_is so_far =
    let f = frame_of n c in
    let x : CutCell = cell_at n.cells.now k in
    so_far ∙ ap (λ (xs : List CutCell). list ++ cut_cell_names f count xs) (drop_next n.cells.now k x (slice_get-get_or n.cells.now k _ lt))
    ∙ ap (λ (m : ℕ). list ++ cut_cell_name f count x ∷ cut_cell_names f m (drop (k + 1) n.cells.now)) (sym more_is)
    ∙ sym (append_assoc list (cut_cell_name f count x ∷ []) (cut_cell_names f more (drop (k + 1) n.cells.now)))
    ∙ ap (λ (q : CellName). (list ++ q ∷ []) ++ cut_cell_names f more (drop (k + 1) n.cells.now)) (sym named_is)
    ∙ ap (λ (qs : List CellName). qs ++ cut_cell_names f more (drop (k + 1) n.cells.now)) (sym new_is)

pub cells_done : (n : Naming) (c : Circuit) (k count : ℕ) (list : List CellName) → length n.cells.now ≤ k
    → cut_cell_names (frame_of n c) 0 n.cells.now ≡ list ++ cut_cell_names (frame_of n c) count (drop k n.cells.now)
    → list ≡ cut_cell_names (frame_of n c) 0 n.cells.now
cells_done n c k count list all is =
    sym (is ∙ ap (λ (xs : List CutCell). list ++ cut_cell_names (frame_of n c) count xs) (drop_past n.cells.now k all) ∙ append-nil list)

-- with one more pin that is kept, and one that isn't
pub kept_next : (f : CutPin → ℕ) (test : CutPin → Bool) (ps : List CutPin) (k : ℕ) (p : CutPin) → slice_get ps k ≡ Some p → test p ≡ true
    → map f (filter test (take (k + 1) ps)) ≡ map f (filter test (take k ps)) ++ f p ∷ []
kept_next f test ps k p at hit =
    ap (λ (qs : List CutPin). map f (filter test qs)) (take_next ps k p at) ∙ ap (map f) (filter-append test (take k ps) (p ∷ []))
    ∙ ap (λ (b : Bool). map f (filter test (take k ps) ++ cond b (p ∷ []) [])) hit ∙ map_push f (filter test (take k ps)) p

pub left_next : (f : CutPin → ℕ) (test : CutPin → Bool) (ps : List CutPin) (k : ℕ) (p : CutPin) → slice_get ps k ≡ Some p → test p ≡ false
    → map f (filter test (take (k + 1) ps)) ≡ map f (filter test (take k ps))
left_next f test ps k p at miss =
    ap (λ (qs : List CutPin). map f (filter test qs)) (take_next ps k p at) ∙ ap (map f) (filter-append test (take k ps) (p ∷ []))
    ∙ ap (λ (b : Bool). map f (filter test (take k ps) ++ cond b (p ∷ []) [])) miss ∙ ap (map f) (append-nil (filter test (take k ps)))

-- by what the names go by
abbrev names_by : Circuit → CutPins → List CutCell → List ℕ → ℕ → List CellName
names_by c pins cells numbers nets =
    cut_cell_names (record { circuit = c; tree = tree_of pins.rows.tree; cells = cells; number = λ net. get_or numbers net nets }) 0 cells

pub names_are : (n : Naming) (c : Circuit) (pins : CutPins) (cells : List CutCell) (numbers : List ℕ) (nets : ℕ) (list : List CellName) → n.cells.now ≡ cells
    → n.pins.now ≡ pins → n.numbers.now ≡ numbers → n.nets ≡ nets → IsCutOut c cells pins
    → (IsNamed n c → list ≡ cut_cell_names (frame_of n c) 0 n.cells.now) → list ≡ names_by c pins cells numbers nets
names_are n c pins cells numbers nets list cells_are pins_are numbers_are nets_are out named =
    let here : IsNamed n c =
    subst (λ (k : CutPins). IsCutOut c n.cells.now k) (sym pins_are) (subst (λ (xs : List CutCell). IsCutOut c xs pins) (sym cells_are) out) in
    named here ∙ ap (λ (k : CutPins). names_by c k n.cells.now n.numbers.now n.nets) pins_are
    ∙ ap (λ (xs : List CutCell). names_by c pins xs n.numbers.now n.nets) cells_are ∙ ap (λ (ns : List ℕ). names_by c pins cells ns n.nets) numbers_are
    ∙ ap (names_by c pins cells numbers) nets_are
