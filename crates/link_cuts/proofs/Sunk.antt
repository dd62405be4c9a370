-- The sinks, by rows.
use Rattle.std.proofs.Common.{◌≡◌, ℕ, ◌<◌, Bool, false, not, ◌&&◌, ◌||◌, List, [], ◌∷◌, length, map, refl, ap, sym, ◌∙◌, subst}
use Rattle.std.proofs.Common.{inl, inr, All}
use Rattle.std.specs.Prelude.{flat_map, filter}
use Rattle.std.proofs.lemmas.Bool.{cases_Bool, cond-true, cond-false}
use Rattle.std.proofs.lemmas.List.{get_or-map}
use Rattle.std.proofs.lemmas.List.Elements.{All-head, All-tail, All-weaker, All-filter}
use Rattle.sdcv_base.specs.Seqs.{is_marked}
use Rattle.link_defs.specs.declared.circuits.Circuit.{Circuit}
use Rattle.link_defs.specs.declared.cuts.CutCell.{CutCell}
use Rattle.link_defs.specs.declared.cuts.CutPin.{CutPin}
use Rattle.link_defs.specs.Circuits.{all_drivers}
use Rattle.link_defs.specs.Cuts.{OwnedPin, owned_pins, may_read, is_in, stands_in, free_nets, is_clocked, reads_data, is_sink, sink_pins}
use Rattle.link_design.specs.Trees.{tree_of}
use Rattle.link_cuts.specs.declared.rows.CutRows.{CutRows}
use Rattle.link_cuts.specs.declared.places.PinPlace.{PinPlace}
use Rattle.link_cuts.specs.Cutting.{cell_at, own_pin, pin_at, IsInCells, IsRowOf, is_sink_at, reads_by}

-- what is kept of a list by a test that tells of each item what another tells of its value
map_filter : (f : PinPlace → OwnedPin) (p : PinPlace → Bool) (q : OwnedPin → Bool) (xs : List PinPlace) → All (λ (x : PinPlace). p x ≡ q (f x)) xs
    → map f (filter p xs) ≡ filter q (map f xs)
map_filter f p q [] same = refl
map_filter f p q (x ∷ xs) same =
    let here : p x ≡ q (f x) = All-head (λ (x : PinPlace). p x ≡ q (f x)) x xs same in
    let rest = map_filter f p q xs (All-tail (λ (x : PinPlace). p x ≡ q (f x)) x xs same) in
    elim (cases_Bool (p x)) [
      | inl hit ↦
          ap (map f) (cond-true (p x) (x ∷ filter p xs) (filter p xs) hit) ∙ ap (λ (ys : List OwnedPin). f x ∷ ys) rest
          ∙ sym (cond-true (q (f x)) (f x ∷ filter q (map f xs)) (filter q (map f xs)) (sym here ∙ hit))
      | inr miss ↦
          ap (map f) (cond-false (p x) (x ∷ filter p xs) (filter p xs) miss) ∙ rest
          ∙ sym (cond-false (q (f x)) (f x ∷ filter q (map f xs)) (filter q (map f xs)) (sym here ∙ miss))
    ]

-- rows over the nets of a circuit and over the cells
pub record AreRows (c : Circuit) (cells : List CutCell) (r : CutRows) : Type 0 where
  pub driven : IsRowOf c.nets (all_drivers c) r.driven
  pub free : IsRowOf c.nets (free_nets c cells) r.free
  pub clocked : r.clocked ≡ map (is_clocked (tree_of r.tree)) cells

pub reads_same : (c : Circuit) (cells : List CutCell) (r : CutRows) (p : CutPin) → AreRows c cells r
    → reads_by r p ≡ reads_data c (tree_of r.tree) (free_nets c cells) p
reads_same c cells r p rows =
    ap (λ (b : Bool). not (is_marked r.tree.all p.net) && ((may_read p.way && b) || (is_in p.way && is_marked r.free p.net))) (rows.driven.marks p.net)
    ∙ ap (λ (b : Bool). not (is_marked r.tree.all p.net) && ((may_read p.way && stands_in (all_drivers c) p.net) || (is_in p.way && b)))
    (rows.free.marks p.net)

pub clocked_same : (c : Circuit) (cells : List CutCell) (r : CutRows) (k : ℕ) → AreRows c cells r → k < length cells
    → is_marked r.clocked k ≡ is_clocked (tree_of r.tree) (cell_at cells k)
clocked_same c cells r k rows within =
    ap (λ (bs : List Bool). is_marked bs k) rows.clocked ∙ get_or-map (is_clocked (tree_of r.tree)) cells k _ false within

pub sink_same : (c : Circuit) (cells : List CutCell) (r : CutRows) (at : PinPlace) → AreRows c cells r → IsInCells cells at
    → is_sink_at r cells at ≡ is_sink c (tree_of r.tree) (free_nets c cells) (pin_at cells at)
sink_same c cells r at rows in_cells =
    ap (λ (b : Bool). b && reads_by r (own_pin (cell_at cells at.cell) at.pin)) (clocked_same c cells r at.cell rows in_cells.cell)
    ∙ ap (λ (b : Bool). is_clocked (tree_of r.tree) (cell_at cells at.cell) && b) (reads_same c cells r (own_pin (cell_at cells at.cell) at.pin) rows)

-- they are the sinks
pub sinks_are : (c : Circuit) (cells : List CutCell) (r : CutRows) (places sinks : List PinPlace) → AreRows c cells r → All (IsInCells cells) places
    → map (pin_at cells) places ≡ flat_map owned_pins cells → sinks ≡ filter (is_sink_at r cells) places
    → map (pin_at cells) sinks ≡ sink_pins c (tree_of r.tree) cells
sinks_are c cells r places sinks rows at all is =
    ap (map (pin_at cells)) is
    ∙ map_filter (pin_at cells) (is_sink_at r cells) (is_sink c (tree_of r.tree) (free_nets c cells)) places
    (All-weaker (IsInCells cells) (λ (x : PinPlace). is_sink_at r cells x ≡ is_sink c (tree_of r.tree) (free_nets c cells) (pin_at cells x))
    (λ x there. sink_same c cells r x rows there) places at)
    ∙ ap (filter (is_sink c (tree_of r.tree) (free_nets c cells))) all

pub sinks_there : (cells : List CutCell) (r : CutRows) (places sinks : List PinPlace) → All (IsInCells cells) places
    → sinks ≡ filter (is_sink_at r cells) places → All (IsInCells cells) sinks
sinks_there cells r places sinks at is =
    subst (λ (ps : List PinPlace). All (IsInCells cells) ps) (sym is) (All-filter (is_sink_at r cells) (IsInCells cells) places at)
