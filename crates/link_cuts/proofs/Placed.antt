-- Pins by their places.
use Rattle.std.proofs.Common.{◌≡◌, ℕ, ◌+◌, ◌<◌, ◌≤◌, false, List, [], ◌∷◌, ◌++◌, length, take, map, refl, ap, sym, ◌∙◌, All}
use Rattle.std.proofs.Common.{append_assoc, append-nil}
use Rattle.std.specs.Prelude.{Some, None, slice_get, flat_map}
use Rattle.std.proofs.lemmas.List.{take_all, take_more, map_push, map_more}
use Rattle.std.proofs.lemmas.List.Elements.{All-push, All-nil, All-get_or, All-map, All-weaker}
use Rattle.std.proofs.lemmas.Grind.{flat_map-append}
use Rattle.std.proofs.lemmas.Option.{get_or_from_slice_get}
use Rattle.net_model.specs.Netlist.{AllBelow}
use Rattle.link_defs.specs.declared.cuts.CutCell.{CutCell}
use Rattle.link_defs.specs.declared.cuts.CutPin.{CutPin}
use Rattle.link_defs.specs.declared.cuts.Way.TheVariants as way
use Rattle.link_defs.specs.Cuts.{OwnedPin, owned_by, owned_pins, net_of, pin_name}
use Rattle.link_cuts.specs.declared.places.PinPlace.{PinPlace}
use Rattle.link_clocks.specs.Netlists.{AreCellsBelow}
use Rattle.link_cuts.specs.Cutting.{cell_at, own_pin, pin_at, nets_at, IsInCells}

-- the places so far are those of a cell's first pins, after the old ones
pub record ArePlacesTo (cells : List CutCell) (old : List PinPlace) (cell k : ℕ) (places : List PinPlace) : Type 0 where
  pub pins : map (pin_at cells) places ≡ map (pin_at cells) old ++ map (owned_by (cell_at cells cell)) (take k (cell_at cells cell).pins)
  pub at : All (IsInCells cells) places

pub places_none : (cells : List CutCell) (old : List PinPlace) (cell : ℕ) → All (IsInCells cells) old → ArePlacesTo cells old cell 0 old
places_none cells old cell at = record { pins = sym (append-nil (map (pin_at cells) old)); at = at }

-- one pin more
pub places_more : (cells : List CutCell) (old places : List PinPlace) (cell k : ℕ) → cell < length cells → k < length (cell_at cells cell).pins
    → ArePlacesTo cells old cell k places → ArePlacesTo cells old cell (k + 1) (places ++ (record { cell = cell; pin = k }) ∷ [])
places_more cells old places cell k in_cells in_pins to =
    let new : PinPlace = record { cell = cell; pin = k } in
    let x : CutCell = cell_at cells cell in
    let front : List OwnedPin = map (pin_at cells) old in
    let more : map (owned_by x) (take (k + 1) x.pins) ≡ map (owned_by x) (take k x.pins) ++ owned_by x (own_pin x k) ∷ [] =
    map_more (owned_by x) x.pins k (record { name = []; way = way.In; net = 0 }) in_pins in
    record {
      pins =
          map_push (pin_at cells) places new ∙ ap (λ (ps : List OwnedPin). ps ++ owned_by x (own_pin x k) ∷ []) to.pins
          ∙ append_assoc front (map (owned_by x) (take k x.pins)) (owned_by x (own_pin x k) ∷ []) ∙ ap (λ (ps : List OwnedPin). front ++ ps) (sym more);
      at = All-push (IsInCells cells) places new to.at (record { cell = in_cells; pin = in_pins });
    }

pub places_all : (cells : List CutCell) (old places : List PinPlace) (cell k : ℕ) → length (cell_at cells cell).pins ≤ k
    → ArePlacesTo cells old cell k places → map (pin_at cells) places ≡ map (pin_at cells) old ++ owned_pins (cell_at cells cell)
places_all cells old places cell k all to =
    to.pins ∙ ap (λ (ps : List CutPin). map (pin_at cells) old ++ map (owned_by (cell_at cells cell)) ps) (take_all k (cell_at cells cell).pins all)

-- the places so far are those of the pins of the first cells
pub record ArePinsTo (cells : List CutCell) (k : ℕ) (places : List PinPlace) : Type 0 where
  pub pins : map (pin_at cells) places ≡ flat_map owned_pins (take k cells)
  pub at : All (IsInCells cells) places

pub pins_none : (cells : List CutCell) → ArePinsTo cells 0 []
pins_none cells = record { pins = refl; at = All-nil (IsInCells cells) }

single : (x : CutCell) → flat_map owned_pins (x ∷ []) ≡ owned_pins x
single x = append-nil (owned_pins x)

pub pins_more : (cells : List CutCell) (old new : List PinPlace) (k : ℕ) → k < length cells → ArePinsTo cells k old
    → map (pin_at cells) new ≡ map (pin_at cells) old ++ owned_pins (cell_at cells k) → All (IsInCells cells) new → ArePinsTo cells (k + 1) new
pins_more cells old new k within to is at =
    let x : CutCell = cell_at cells k in
    let taken : take (k + 1) cells ≡ take k cells ++ x ∷ [] =
    take_more cells k (record { cell = []; name = []; clocked = false; pins = []; fault = None }) within in
    record {
      pins =
          is ∙ ap (λ (ps : List OwnedPin). ps ++ owned_pins x) to.pins ∙ ap (λ (ps : List OwnedPin). flat_map owned_pins (take k cells) ++ ps) (sym (single x))
          ∙ sym (flat_map-append owned_pins (take k cells) (x ∷ [])) ∙ ap (flat_map owned_pins) (sym taken);
      at = at;
    }

pub pins_all : (cells : List CutCell) (places : List PinPlace) (k : ℕ) → length cells ≤ k → ArePinsTo cells k places
    → map (pin_at cells) places ≡ flat_map owned_pins cells
pins_all cells places k all to = to.pins ∙ ap (flat_map owned_pins) (take_all k cells all)

-- what stands at a place
pub cell_read : (cells : List CutCell) (k : ℕ) (x : CutCell) → slice_get cells k ≡ Some x → cell_at cells k ≡ x
cell_read cells k x at =
    get_or_from_slice_get cells k x (record { cell = []; name = []; clocked = false; pins = []; fault = None }) at

pub pin_read : (x : CutCell) (k : ℕ) (p : CutPin) → slice_get x.pins k ≡ Some p → own_pin x k ≡ p
pin_read x k p at = get_or_from_slice_get x.pins k p (record { name = []; way = way.In; net = 0 }) at

-- the nets at places are those of the pins at them
pub nets_are : (cells : List CutCell) (places : List PinPlace) → nets_at cells places ≡ map net_of (map (pin_at cells) places)
nets_are cells [] = refl
nets_are cells (p ∷ ps) = ap (λ (ns : List ℕ). net_of (pin_at cells p) ∷ ns) (nets_are cells ps)

-- the net of a pin at a place is among so many, where those of all cells are
pub net_below : (nets : ℕ) (cells : List CutCell) (at : PinPlace) → AreCellsBelow nets cells → IsInCells cells at → (pin_at cells at).pin.net < nets
net_below nets cells at below in_cells =
    All-get_or (λ (p : CutPin). p.net < nets) (cell_at cells at.cell).pins at.pin _ in_cells.pin
    (All-get_or (λ (x : CutCell). All (λ (p : CutPin). p.net < nets) x.pins) cells at.cell _ in_cells.cell below)

pub nets_below : (nets : ℕ) (cells : List CutCell) (places : List PinPlace) → AreCellsBelow nets cells → All (IsInCells cells) places
    → AllBelow nets (nets_at cells places)
nets_below nets cells places below at =
    All-map (λ (n : ℕ). n < nets) (λ (p : PinPlace). net_of (pin_at cells p)) places
    (All-weaker (IsInCells cells) (λ (p : PinPlace). net_of (pin_at cells p) < nets) (λ p there. net_below nets cells p below there) places at)

-- how many pins a cell has that stands at a place
pub pins_len : (cells : List CutCell) (k : ℕ) (x : CutCell) → slice_get cells k ≡ Some x → length (cell_at cells k).pins ≡ length x.pins
pins_len cells k x at = ap (λ (y : CutCell). length y.pins) (cell_read cells k x at)

-- the full name of a pin, by its cell's
pub name_read : (cells : List CutCell) (at : PinPlace) (x : CutCell) (p : CutPin) (name : List ℕ) → slice_get cells at.cell ≡ Some x
    → p ≡ own_pin (cell_at cells at.cell) at.pin → name ≡ x.name ++ 47 ∷ p.name → name ≡ pin_name (pin_at cells at)
name_read cells at x p name is same told =
    told ∙ ap (λ (y : CutCell). y.name ++ 47 ∷ p.name) (sym (cell_read cells at.cell x is))
    ∙ ap (λ (q : CutPin). (cell_at cells at.cell).name ++ 47 ∷ q.name) same
