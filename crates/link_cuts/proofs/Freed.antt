-- The free nets, pin by pin.
use Rattle.std.proofs.Common.{◌≡◌, ◌≢◌, ℕ, ◌+◌, ◌<◌, ◌≤◌, Bool, true, false, not, ◌&&◌, ◌||◌, List, [], ◌∷◌, ◌++◌, length, drop, map, refl, ap, sym}
use Rattle.std.proofs.Common.{◌∙◌, subst, arith, ◌⊎◌, inl, inr, get_or-set_same, get_or-set_other, length-set, append_assoc, append-nil, All}
use Rattle.std.specs.Prelude.{Some, slice_get, flat_map, filter}
use Rattle.std.proofs.Math.ListN.{set}
use Rattle.std.proofs.lemmas.Bool.{cases_eq, eq-eqb, ne_eqb, cond-true, cond-false}
use Rattle.std.proofs.lemmas.List.{drop_more, drop_all, map_push}
use Rattle.std.proofs.lemmas.List.Elements.{All-push, All-nil, filter_agree}
use Rattle.std.proofs.lemmas.Option.{slice_get_within, get_or_from_slice_get}
use Rattle.sdcv_base.specs.Seqs.{is_marked}
use Rattle.link_defs.specs.declared.circuits.Circuit.{Circuit}
use Rattle.link_defs.specs.declared.cuts.CutCell.{CutCell}
use Rattle.link_defs.specs.declared.cuts.CutPin.{CutPin}
use Rattle.link_defs.specs.Circuits.{all_drivers, all_reads}
use Rattle.link_defs.specs.Cuts.{OwnedPin, owned_by, owned_pins, may_drive, stands_in, first_pins, is_loose, free_pins}
use Rattle.link_cuts.specs.declared.frees.NetMarks.{NetMarks}
use Rattle.link_cuts.specs.declared.places.PinPlace.{PinPlace}
use Rattle.link_clocks.specs.Netlists.{AreCellsBelow}
use Rattle.link_cuts.specs.Cutting.{cell_at, own_pin, pin_at, IsInCells, IsRowOf, is_loose_by}
use Rattle.link_cuts.proofs.Placed.{net_below}

-- the pins that are loose, from a place on
abbrev pub loose_from : NetMarks → List CutCell → List PinPlace → List OwnedPin
loose_from m cells places = filter (is_loose_by m) (map (pin_at cells) places)

-- the free nets of the first pins are found, and their nets are marked
pub record IsFreeTo (m : NetMarks) (cells : List CutCell) (places : List PinPlace) (k : ℕ) (seen : List Bool) (free : List PinPlace) : Type 0 where
  pub met : List ℕ
  pub marks : IsRowOf (length m.read) met seen
  pub whole : map (pin_at cells) free ++ first_pins met (loose_from m cells (drop k places)) ≡ first_pins [] (loose_from m cells places)
  pub at : All (IsInCells cells) free

pub free_none : (m : NetMarks) (cells : List CutCell) (places : List PinPlace) (seen : List Bool) → length seen ≡ length m.read
    → ((net : ℕ) → is_marked seen net ≡ false) → IsFreeTo m cells places 0 seen []
free_none m cells places seen len none = record {
  met = [];
  marks = record { len = len; marks = none };
  whole = refl;
  at = All-nil (IsInCells cells);
}

rest_is : (places : List PinPlace) (k : ℕ) (at : PinPlace) → slice_get places k ≡ Some at → drop k places ≡ at ∷ drop (k + 1) places
rest_is places k at is =
    drop_more places k at (slice_get_within places k at is)
    ∙ ap (λ (p : PinPlace). p ∷ drop (k + 1) places) (get_or_from_slice_get places k at at is)

filter_yes : (p : OwnedPin → Bool) (x : OwnedPin) (xs : List OwnedPin) → p x ≡ true → filter p (x ∷ xs) ≡ x ∷ filter p xs
filter_yes p x xs hit = cond-true (p x) (x ∷ filter p xs) (filter p xs) hit

filter_no : (p : OwnedPin → Bool) (x : OwnedPin) (xs : List OwnedPin) → p x ≡ false → filter p (x ∷ xs) ≡ filter p xs
filter_no p x xs miss = cond-false (p x) (x ∷ filter p xs) (filter p xs) miss

first_old : (met : List ℕ) (x : OwnedPin) (xs : List OwnedPin) → stands_in met x.pin.net ≡ true → first_pins met (x ∷ xs) ≡ first_pins met xs
first_old met x xs old = cond-true (stands_in met x.pin.net) (first_pins met xs) (x ∷ first_pins (x.pin.net ∷ met) xs) old

first_new : (met : List ℕ) (x : OwnedPin) (xs : List OwnedPin) → stands_in met x.pin.net ≡ false
    → first_pins met (x ∷ xs) ≡ x ∷ first_pins (x.pin.net ∷ met) xs
first_new met x xs new = cond-false (stands_in met x.pin.net) (first_pins met xs) (x ∷ first_pins (x.pin.net ∷ met) xs) new

-- a net more is marked
marks_more : (nets : ℕ) (met : List ℕ) (seen : List Bool) (net : ℕ) → net < nets → IsRowOf nets met seen → IsRowOf nets (net ∷ met) (set seen net true)
marks_more nets met seen net below is =
    let here : is_marked (set seen net true) net ≡ true = get_or-set_same seen net true false (omega (arith, is.len)) in
    let kept : (n : ℕ) → n ≢ net → is_marked (set seen net true) n ≡ is_marked seen n = λ n apart. get_or-set_other seen net n true false apart in
    record {
      len = length-set seen net true ∙ is.len;
      marks = λ n. elim (cases_eq n net) [
        | inl same ↦
            ap (λ (k : ℕ). is_marked (set seen net true) k) same ∙ here ∙ sym (ap (λ (b : Bool). b || stands_in met n) (eq-eqb n net same))
        | inr apart ↦ kept n apart ∙ is.marks n ∙ sym (ap (λ (b : Bool). b || stands_in met n) (ne_eqb n net apart))
      ];
    }

-- a pin that is not loose
pub free_tight : (m : NetMarks) (cells : List CutCell) (places : List PinPlace) (k : ℕ) (at : PinPlace) (seen : List Bool) (free : List PinPlace)
    → slice_get places k ≡ Some at → is_loose_by m (pin_at cells at) ≡ false → IsFreeTo m cells places k seen free
    → IsFreeTo m cells places (k + 1) seen free
free_tight m cells places k at seen free is tight to = record {
  met = to.met;
  marks = to.marks;
  whole =
      ap (λ (ps : List OwnedPin). map (pin_at cells) free ++ first_pins to.met ps) (sym (ap (loose_from m cells) (rest_is places k at is)
      ∙ filter_no (is_loose_by m) (pin_at cells at) (map (pin_at cells) (drop (k + 1) places)) tight)) ∙ to.whole;
  at = to.at;
}

-- a loose one on a net that is marked
pub free_old : (m : NetMarks) (cells : List CutCell) (places : List PinPlace) (k : ℕ) (at : PinPlace) (seen : List Bool) (free : List PinPlace)
    → slice_get places k ≡ Some at → is_loose_by m (pin_at cells at) ≡ true → is_marked seen (pin_at cells at).pin.net ≡ true
    → IsFreeTo m cells places k seen free → IsFreeTo m cells places (k + 1) seen free
free_old m cells places k at seen free is loose old to =
    let rest : List OwnedPin = loose_from m cells (drop (k + 1) places) in
    record {
      met = to.met;
      marks = to.marks;
      whole =
          ap (λ (ps : List OwnedPin). map (pin_at cells) free ++ ps) (sym (ap (first_pins to.met) (ap (loose_from m cells) (rest_is places k at is)
          ∙ filter_yes (is_loose_by m) (pin_at cells at) (map (pin_at cells) (drop (k + 1) places)) loose)
          ∙ first_old to.met (pin_at cells at) rest (sym (to.marks.marks (pin_at cells at).pin.net) ∙ old))) ∙ to.whole;
      at = to.at;
    }

-- one on a net that is not: the net is free, and it is marked
pub free_new : (m : NetMarks) (cells : List CutCell) (places : List PinPlace) (k : ℕ) (at : PinPlace) (seen : List Bool) (free : List PinPlace)
    → slice_get places k ≡ Some at → is_loose_by m (pin_at cells at) ≡ true → is_marked seen (pin_at cells at).pin.net ≡ false
    → (pin_at cells at).pin.net < length m.read → IsInCells cells at → IsFreeTo m cells places k seen free
    → IsFreeTo m cells places (k + 1) (set seen (pin_at cells at).pin.net true) (free ++ at ∷ [])
free_new m cells places k at seen free is loose new below in_cells to =
    let p : OwnedPin = pin_at cells at in
    let rest : List OwnedPin = loose_from m cells (drop (k + 1) places) in
    record {
      met = p.pin.net ∷ to.met;
      marks = marks_more (length m.read) to.met seen p.pin.net below to.marks;
      whole =
          ap (λ (ps : List OwnedPin). ps ++ first_pins (p.pin.net ∷ to.met) rest) (map_push (pin_at cells) free at)
          ∙ append_assoc (map (pin_at cells) free) (p ∷ []) (first_pins (p.pin.net ∷ to.met) rest)
          ∙ ap (λ (ps : List OwnedPin). map (pin_at cells) free ++ ps) (sym (ap (first_pins to.met) (ap (loose_from m cells) (rest_is places k at is)
          ∙ filter_yes (is_loose_by m) p (map (pin_at cells) (drop (k + 1) places)) loose)
          ∙ first_new to.met p rest (sym (to.marks.marks p.pin.net) ∙ new))) ∙ to.whole;
      at = All-push (IsInCells cells) free at to.at in_cells;
    }

-- a pin is not loose, or its net is marked
loose_or : (a b : Bool) → (a && not b) ≡ false → (a ≡ false) ⊎ ((a ≡ true) × (b ≡ true))
loose_or false b is = inl refl
loose_or true true is = inr (refl, refl)
loose_or true false is = absurd (cc)

-- a pin that is not loose and on a net that is not marked
pub free_same : (m : NetMarks) (cells : List CutCell) (places : List PinPlace) (k : ℕ) (at : PinPlace) (seen : List Bool) (free : List PinPlace)
    → slice_get places k ≡ Some at → (is_loose_by m (pin_at cells at) && not (is_marked seen (pin_at cells at).pin.net)) ≡ false
    → IsFreeTo m cells places k seen free → IsFreeTo m cells places (k + 1) seen free
free_same m cells places k at seen free is none to =
    elim (loose_or (is_loose_by m (pin_at cells at)) (is_marked seen (pin_at cells at).pin.net) none) [
      | inl tight ↦ free_tight m cells places k at seen free is tight to
      | inr both ↦ free_old m cells places k at seen free is both.0 both.1 to
    ]

loose_both : (a b : Bool) → (a && not b) ≡ true → (a ≡ true) × (b ≡ false)
loose_both true false is = (refl, refl)
loose_both true true is = absurd (cc)
loose_both false b is = absurd (cc)

-- one that is both
pub free_more : (m : NetMarks) (cells : List CutCell) (places : List PinPlace) (k : ℕ) (at : PinPlace) (seen : List Bool) (free : List PinPlace)
    → slice_get places k ≡ Some at → (is_loose_by m (pin_at cells at) && not (is_marked seen (pin_at cells at).pin.net)) ≡ true
    → (pin_at cells at).pin.net < length m.read → IsInCells cells at → IsFreeTo m cells places k seen free
    → IsFreeTo m cells places (k + 1) (set seen (pin_at cells at).pin.net true) (free ++ at ∷ [])
free_more m cells places k at seen free is new below in_cells to =
    let both = loose_both (is_loose_by m (pin_at cells at)) (is_marked seen (pin_at cells at).pin.net) new in
    free_new m cells places k at seen free is both.0 both.1 below in_cells to

-- what a test of the pin at a place tells
new_is : (m : NetMarks) (cells : List CutCell) (at : PinPlace) (seen : List Bool) (p : CutPin) (test : Bool) → p ≡ own_pin (cell_at cells at.cell) at.pin
    → ((x : CutCell) → test ≡ (is_loose_by m (owned_by x p) && not (is_marked seen p.net)))
    → (is_loose_by m (pin_at cells at) && not (is_marked seen (pin_at cells at).pin.net)) ≡ test
new_is m cells at seen p test same is =
    let x : CutCell = cell_at cells at.cell in
    sym (is x ∙ ap (λ (q : CutPin). is_loose_by m (owned_by x q) && not (is_marked seen q.net)) same)

-- one turn of the loop: a pin of a new free net
pub free_then : (m : NetMarks) (cells : List CutCell) (places : List PinPlace) (k : ℕ) (at : PinPlace) (p : CutPin) (seen seen2 : List Bool)
    (free free2 : List PinPlace) (test : Bool) → slice_get places k ≡ Some at → p ≡ own_pin (cell_at cells at.cell) at.pin
    → ((x : CutCell) → test ≡ (is_loose_by m (owned_by x p) && not (is_marked seen p.net))) → test ≡ true → AreCellsBelow (length m.read) cells
    → IsInCells cells at → seen2 ≡ set seen p.net true → free2 ≡ free ++ at ∷ [] → IsFreeTo m cells places k seen free
    → IsFreeTo m cells places (k + 1) seen2 free2
free_then m cells places k at p seen seen2 free free2 test is same told hit below in_cells seen_is free_is to =
    subst (λ (s : List Bool). IsFreeTo m cells places (k + 1) s free2) (sym (seen_is ∙ ap (λ (q : CutPin). set seen q.net true) same))
    (subst (λ (f : List PinPlace). IsFreeTo m cells places (k + 1) (set seen (pin_at cells at).pin.net true) f) (sym free_is)
    (free_more m cells places k at seen free is (new_is m cells at seen p test same told ∙ hit) (net_below (length m.read) cells at below in_cells) in_cells
    to))

-- and any other pin
pub free_else : (m : NetMarks) (cells : List CutCell) (places : List PinPlace) (k : ℕ) (at : PinPlace) (p : CutPin) (seen seen2 : List Bool)
    (free free2 : List PinPlace) (test : Bool) → slice_get places k ≡ Some at → p ≡ own_pin (cell_at cells at.cell) at.pin
    → ((x : CutCell) → test ≡ (is_loose_by m (owned_by x p) && not (is_marked seen p.net))) → test ≡ false → seen2 ≡ seen → free2 ≡ free
    → IsFreeTo m cells places k seen free → IsFreeTo m cells places (k + 1) seen2 free2
free_else m cells places k at p seen seen2 free free2 test is same told miss seen_is free_is to =
    subst (λ (s : List Bool). IsFreeTo m cells places (k + 1) s free2) (sym seen_is)
    (subst (λ (f : List PinPlace). IsFreeTo m cells places (k + 1) seen f) (sym free_is)
    (free_same m cells places k at seen free is (new_is m cells at seen p test same told ∙ miss) to))

-- no pin is left
pub free_all : (m : NetMarks) (cells : List CutCell) (places : List PinPlace) (k : ℕ) (seen : List Bool) (free : List PinPlace) → length places ≤ k
    → IsFreeTo m cells places k seen free → map (pin_at cells) free ≡ first_pins [] (loose_from m cells places)
free_all m cells places k seen free all to =
    sym (append-nil (map (pin_at cells) free))
    ∙ sym (ap (λ (ps : List PinPlace). map (pin_at cells) free ++ first_pins to.met (loose_from m cells ps)) (drop_all k places all)) ∙ to.whole

-- the marks tell which pins are loose
loose_same : (c : Circuit) (m : NetMarks) (p : OwnedPin) → IsRowOf c.nets (all_drivers c) m.driven → IsRowOf c.nets (all_reads c) m.read
    → is_loose_by m p ≡ is_loose c p
loose_same c m p driven read =
    ap (λ (b : Bool). may_drive p.pin.way && (b && not (is_marked m.driven p.pin.net))) (read.marks p.pin.net)
    ∙ ap (λ (b : Bool). may_drive p.pin.way && (stands_in (all_reads c) p.pin.net && not b)) (driven.marks p.pin.net)

pub free_is : (c : Circuit) (cells : List CutCell) (m : NetMarks) (places free : List PinPlace) → IsRowOf c.nets (all_drivers c) m.driven
    → IsRowOf c.nets (all_reads c) m.read → map (pin_at cells) places ≡ flat_map owned_pins cells
    → map (pin_at cells) free ≡ first_pins [] (loose_from m cells places) → map (pin_at cells) free ≡ free_pins c cells
free_is c cells m places free driven read all is =
    is ∙ ap (first_pins []) (filter_agree (is_loose_by m) (is_loose c) (λ p. loose_same c m p driven read) (map (pin_at cells) places)
    ∙ ap (filter (is_loose c)) all)
