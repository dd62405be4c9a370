-- The cells that are cut out by name: every place is one of the design.
use Rattle.std.proofs.Common.{◌≡◌, ℕ, ◌+◌, ◌<◌, ◌≤◌, Bool, true, false, cond, List, [], ◌∷◌, ◌++◌, length, map, All, refl, ap, subst, sym}
use Rattle.std.proofs.Common.{arith, inl, inr, ◌⊎◌}
use Rattle.std.specs.Prelude.{filter, flat_map, nat_eq, ◌&&◌, ◌||◌, count_by, sum_by}
use Rattle.std.proofs.lemmas.Bool.{and_parts, eqb-true}
use Rattle.std.proofs.lemmas.List.Elements.{All-cons, All-append, All-map}
use Rattle.std.proofs.lemmas.List.Sums.{sum_by-cons, sum_by-append, length-filter}
use Rattle.net_model.specs.Netlist.{AllBelow}
use Rattle.net_model.specs.declared.netlist.Design.{Design}
use Rattle.net_model.proofs.Members.{In, In-from_Contains, Contains-from_In}
use Rattle.linked_types.specs.declared.names.CellName.{CellName}
use Rattle.linked_types.specs.declared.names.PinName.{PinName}
use Rattle.linked_types.specs.declared.names.PinRole.{PinRole}
use Rattle.linked_types.specs.declared.names.PinRole.TheVariants as role
use Rattle.linked_types.specs.Usable.{IsCellOf, IsRoleOf, is_reg}
use Rattle.link_defs.specs.declared.cuts.CutCell.{CutCell}
use Rattle.link_defs.specs.declared.cuts.CutPin.{CutPin}
use Rattle.link_defs.specs.Cuts.{OwnedPin, CutFrame, owned_pins, stands_in, may_drive, frame_nets, drives_free, owns, is_clocked, is_source, is_frame_sink}
use Rattle.link_defs.specs.Cuts.{input_of, cut_role, sink_count, cut_pin_names, cut_outs, cut_cell_name, cut_cell_names, sink_pins}
use Rattle.link_defs.proofs.Solving.{number_within}
use Rattle.link_items.proofs.Listing.{all_by, contains_at}
use Rattle.link_circuit.proofs.Lawfully.{all_none}
use Rattle.link_tops.specs.Clashes.{cut_names}
use Rattle.net_link.specs.Places.{ArePlacesOf}
use Rattle.net_link.proofs.Cutting.{in_filter}

-- the design has an input for each free net, an output for each sink, and a net for each free net
pub record IsFramed (d : Design) (f : CutFrame) : Type 0 where
  pub inputs : length d.inputs ≡ length f.circuit.inputs + length (frame_nets f)
  pub outputs : length d.outputs ≡ length f.circuit.outputs + length (sink_pins f.circuit f.tree f.cells)
  pub nets : (net : ℕ) → In net (frame_nets f) → f.number net < d.nets

or_or : (a b : Bool) → (a || b) ≡ true → (a ≡ true) ⊎ (b ≡ true)
or_or true b e = inl refl
or_or false b e = inr e

-- a net that stands in a list
stands_there : (net : ℕ) (nets : List ℕ) → stands_in nets net ≡ true → In net nets
stands_there net [] hit = cc
stands_there net (x ∷ xs) hit = elim (or_or (nat_eq net x) (stands_in xs net) hit) [
  | inl here ↦ inl (sym (eqb-true net x here))
  | inr later ↦ inr (stands_there net xs later)
]

free_there : (f : CutFrame) (p : CutPin) → drives_free f p ≡ true → In p.net (frame_nets f)
free_there f p hit = stands_there p.net (frame_nets f) (and_parts (may_drive p.way) (stands_in (frame_nets f) p.net) hit).1

source_free : (f : CutFrame) (p : OwnedPin) → is_source f p ≡ true → In p.pin.net (frame_nets f)
source_free f p hit =
    let rest = (and_parts (is_clocked f.tree p.cell) (drives_free f p.pin && owns f p.cell p.pin.net) hit).1 in
    free_there f p.pin (and_parts (drives_free f p.pin) (owns f p.cell p.pin.net) rest).0

-- as many sinks as pins that are sinks
abbrev counted_sinks : CutFrame → List OwnedPin → ℕ
counted_sinks f pins = sum_by (λ (p : OwnedPin). cond (is_frame_sink f p) 1 0) pins

one_sink : (f : CutFrame) (p : OwnedPin) → is_frame_sink f p ≡ true → sink_count f (p ∷ []) ≡ 1
one_sink f p hit =
    let front = sum_by-cons (λ (q : OwnedPin). cond (is_frame_sink f q) 1 0) p [] in
    let one : cond {A = ℕ} (is_frame_sink f p) 1 0 ≡ 1 = ap (λ (b : Bool). cond {A = ℕ} b 1 0) hit in
    omega (arith, front, one)

sink_cons : (f : CutFrame) (p : OwnedPin) (ps : List OwnedPin) → sink_count f (p ∷ ps) ≡ sink_count f (p ∷ []) + sink_count f ps
sink_cons f p ps =
    let all = sum_by-cons (λ (q : OwnedPin). cond (is_frame_sink f q) 1 0) p ps in
    let one = sum_by-cons (λ (q : OwnedPin). cond (is_frame_sink f q) 1 0) p [] in
    omega (arith, all, one)

sink_more : (f : CutFrame) (ps qs : List OwnedPin) → sink_count f (ps ++ qs) ≡ sink_count f ps + sink_count f qs
sink_more f ps qs = sum_by-append (λ (q : OwnedPin). cond (is_frame_sink f q) 1 0) ps qs

-- what a pin is, is of the design
role_if : (d : Design) (f : CutFrame) (sinks : ℕ) (p : OwnedPin) (a b c : Bool) → is_source f p ≡ a → is_frame_sink f p ≡ b → drives_free f p.pin ≡ c
    → IsFramed d f → sinks + sink_count f (p ∷ []) ≤ length (sink_pins f.circuit f.tree f.cells) → IsRoleOf d (cut_role f sinks p)
role_if d f sinks p true b c source sink drives framed most =
    let front : cut_role f sinks p ≡ role.Source (input_of f p.pin.net) = rw source refl in
    let place = number_within p.pin.net (frame_nets f) (Contains-from_In (frame_nets f) p.pin.net (source_free f p source)) in
    subst (λ (r : PinRole). IsRoleOf d r) (sym front) (omega (arith, place, framed.inputs))
role_if d f sinks p false true c source sink drives framed most =
    let front : cut_role f sinks p ≡ role.Sink (length f.circuit.outputs + sinks) = rw (source, sink) refl in
    subst (λ (r : PinRole). IsRoleOf d r) (sym front) (omega (arith, most, one_sink f p sink, framed.outputs))
role_if d f sinks p false false true source sink drives framed most =
    let front : cut_role f sinks p ≡ role.Drive (f.number p.pin.net) = rw (source, sink, drives) refl in
    subst (λ (r : PinRole). IsRoleOf d r) (sym front) (framed.nets p.pin.net (free_there f p.pin drives))
role_if d f sinks p false false false source sink drives framed most =
    let front : cut_role f sinks p ≡ role.Load [] = rw (source, sink, drives) refl in
    subst (λ (r : PinRole). IsRoleOf d r) (sym front) (λ k e lt. absurd (omega (arith, lt)))

pins_good : (d : Design) (f : CutFrame) (sinks : ℕ) (pins : List OwnedPin) → IsFramed d f
    → sinks + sink_count f pins ≤ length (sink_pins f.circuit f.tree f.cells) → All (λ (p : PinName). IsRoleOf d p.role) (cut_pin_names f sinks pins)
pins_good d f sinks [] framed most = all_none (λ (p : PinName). IsRoleOf d p.role)
pins_good d f sinks (p ∷ ps) framed most =
    let split = sink_cons f p ps in
    All-cons (λ (q : PinName). IsRoleOf d q.role) (record { name = p.pin.name; role = cut_role f sinks p })
    (cut_pin_names f (sinks + sink_count f (p ∷ [])) ps)
    (role_if d f sinks p (is_source f p) (is_frame_sink f p) (drives_free f p.pin) refl refl refl framed (omega (arith, most, split)))
    (pins_good d f (sinks + sink_count f (p ∷ [])) ps framed (omega (arith, most, split)))

outs_good : (d : Design) (f : CutFrame) (x : CutCell) → IsFramed d f → AllBelow d.nets (cut_outs f x)
outs_good d f x framed =
    All-map (λ (n : ℕ). n < d.nets) (λ (p : CutPin). f.number p.net) (filter (drives_free f) x.pins)
    (all_by (λ (p : CutPin). f.number p.net < d.nets) (filter (drives_free f) x.pins) (λ k p at.
    let (there, hit) = in_filter (drives_free f) x.pins p
    (In-from_Contains (filter (drives_free f) x.pins) p (contains_at (filter (drives_free f) x.pins) k p at)) in
    framed.nets p.net (free_there f p hit)))

-- every place of the cells
cells_good : (d : Design) (f : CutFrame) (sinks : ℕ) (cells : List CutCell) → IsFramed d f
    → sinks + sink_count f (flat_map owned_pins cells) ≤ length (sink_pins f.circuit f.tree f.cells) → All (IsCellOf d) (cut_cell_names f sinks cells)
cells_good d f sinks [] framed most = all_none (IsCellOf d)
cells_good d f sinks (x ∷ xs) framed most =
    let split = sink_more f (owned_pins x) (flat_map owned_pins xs) in
    All-cons (IsCellOf d) (cut_cell_name f sinks x) (cut_cell_names f (sinks + sink_count f (owned_pins x)) xs)
    (record { reg = tt; outs = outs_good d f x framed; pins = pins_good d f sinks (owned_pins x) framed (omega (arith, most, split)) })
    (cells_good d f (sinks + sink_count f (owned_pins x)) xs framed (omega (arith, most, split)))

pub all_good : (d : Design) (f : CutFrame) → IsFramed d f → All (IsCellOf d) (cut_cell_names f 0 f.cells)
all_good d f framed =
    cells_good d f 0 f.cells framed (omega (arith, length-filter (is_frame_sink f) (flat_map owned_pins f.cells)))

-- none of them is a register
no_reg : (f : CutFrame) (sinks r : ℕ) (cells : List CutCell) → count_by (is_reg r) (cut_cell_names f sinks cells) ≡ 0
no_reg f sinks r [] = refl
no_reg f sinks r (x ∷ xs) =
    let next = cut_cell_names f (sinks + sink_count f (owned_pins x)) xs in
    let front = sum_by-cons (λ (c : CellName). cond (is_reg r c) 1 0) (cut_cell_name f sinks x) next in
    omega (arith, front, no_reg f (sinks + sink_count f (owned_pins x)) r xs)

-- they have their own names
pub own_cuts : (f : CutFrame) (sinks : ℕ) (cells : List CutCell) → map (λ (c : CellName). c.name) (cut_cell_names f sinks cells) ≡ cut_names cells
own_cuts f sinks [] = refl
own_cuts f sinks (x ∷ xs) = ap (λ (ns : List (List ℕ)). x.name ∷ ns) (own_cuts f (sinks + sink_count f (owned_pins x)) xs)

-- the cells of leaves, and those that are cut out
pub places_more : (d : Design) (f : CutFrame) (list : List CellName) → IsFramed d f → ArePlacesOf d list
    → ArePlacesOf d (list ++ cut_cell_names f 0 f.cells)
places_more d f list framed places = record {
  cells = All-append (IsCellOf d) list (cut_cell_names f 0 f.cells) places.cells (all_good d f framed);
  each_reg = λ r lt.
      let one = places.each_reg r lt in
      let split = sum_by-append (λ (c : CellName). cond (is_reg r c) 1 0) list (cut_cell_names f 0 f.cells) in
      omega (arith, one, split, no_reg f 0 r f.cells);
}
