-- The owner of a free net, by the place of the free pin on it.
use Rattle.std.proofs.Common.{◌≡◌, ℕ, suc, ◌+◌, ◌<◌, ◌≤◌, Bool, true, false, cond, eqb, not, ◌&&◌, ◌||◌, List, [], ◌∷◌, length, map}
use Rattle.std.proofs.Common.{refl, ap, sym, ◌∙◌, subst, arith, inl, inr, get_or, All, Some, None, ◌⊎◌}
use Rattle.std.specs.Prelude.{Option, slice_get, nat_eq}
use Rattle.std.specs.Option.{option_map}
use Rattle.std.specs.List.{list_any, position_or_len}
use Rattle.std.specs.Str.{bytes_eq}
use Rattle.std.proofs.lemmas.Bool.{cases_Bool, eq-eqb, eqb-true, cond-true, cond-false}
use Rattle.std.proofs.lemmas.Option.{slice_get-map, slice_get-get_or, slice_get_within}
use Rattle.link_defs.specs.declared.cuts.CutCell.{CutCell}
use Rattle.link_defs.specs.Cuts.{OwnedPin, net_of, stands_in, first_pins}
use Rattle.link_items.proofs.Listing.{all_at}
use Rattle.link_cuts.specs.declared.places.PinPlace.{PinPlace}
use Rattle.link_cuts.specs.Cutting.{cell_at, pin_at, IsInCells}
use Rattle.link_cuts.specs.Roles.{cell_of, is_named}

-- a pin on the net that passes
abbrev on_net : ℕ → (OwnedPin → Bool) → OwnedPin → Bool
on_net net test p = nat_eq net p.pin.net && test p

-- there is a pin, and it passes
abbrev pub passes : (OwnedPin → Bool) → Option OwnedPin → Bool
passes test None = false
passes test (Some p) = test p

-- no first pin stands on a net that was met
none_seen : (net : ℕ) (test : OwnedPin → Bool) (seen : List ℕ) (ps : List OwnedPin) → stands_in seen net ≡ true
    → list_any (on_net net test) (first_pins seen ps) ≡ false
none_seen net test seen [] met = refl
none_seen net test seen (p ∷ ps) met =
    let rest : List OwnedPin = first_pins (p.pin.net ∷ seen) ps in
    elim (cases_Bool (stands_in seen p.pin.net)) [
      | inl old ↦
          ap (list_any (on_net net test)) (cond-true (stands_in seen p.pin.net) (first_pins seen ps) (p ∷ rest) old) ∙ none_seen net test seen ps met
      | inr new ↦
          let apart : nat_eq net p.pin.net ≡ false = elim (cases_Bool (nat_eq net p.pin.net)) [
            | inl same ↦ (let e = sym new ∙ ap (stands_in seen) (sym (eqb-true net p.pin.net same)) ∙ met in cc)
            | inr other ↦ other
          ] in
          let still : stands_in (p.pin.net ∷ seen) net ≡ true = ap (λ (b : Bool). b || stands_in seen net) apart ∙ met in
          ap (list_any (on_net net test)) (cond-false (stands_in seen p.pin.net) (first_pins seen ps) (p ∷ rest) new)
          ∙ ap (λ (b : Bool). (b && test p) || list_any (on_net net test) rest) apart ∙ none_seen net test (p.pin.net ∷ seen) ps still
    ]

or_false : (a : Bool) → (a || false) ≡ a
or_false true = refl
or_false false = refl

-- the first pin on a net, by its place
abbrev first_passes : ℕ → (OwnedPin → Bool) → List OwnedPin → Bool
first_passes net test ps = passes test (slice_get ps (position_or_len (nat_eq net) (map net_of ps)))

abbrev IsOwned : ℕ → (OwnedPin → Bool) → List OwnedPin → Type 0
IsOwned net test ps = list_any (on_net net test) ps ≡ first_passes net test ps

owned_here : (net : ℕ) (test : OwnedPin → Bool) (p : OwnedPin) (ps : List OwnedPin) → nat_eq net p.pin.net ≡ true
    → list_any (on_net net test) ps ≡ false → IsOwned net test (p ∷ ps)
owned_here net test p ps hit none =
    ap (λ (b : Bool). (b && test p) || list_any (on_net net test) ps) hit ∙ ap (λ (b : Bool). test p || b) none ∙ or_false (test p)
    ∙ sym (ap (λ (b : Bool). passes test (slice_get (p ∷ ps) (cond (not b) (1 + position_or_len (nat_eq net) (map net_of ps)) 0))) hit)

owned_later : (net : ℕ) (test : OwnedPin → Bool) (p : OwnedPin) (ps : List OwnedPin) → nat_eq net p.pin.net ≡ false
    → IsOwned net test ps → IsOwned net test (p ∷ ps)
owned_later net test p ps miss later =
    let next : 1 + position_or_len (nat_eq net) (map net_of ps) ≡ suc (position_or_len (nat_eq net) (map net_of ps)) = omega arith in
    ap (λ (b : Bool). (b && test p) || list_any (on_net net test) ps) miss ∙ later
    ∙ sym (ap (λ (b : Bool). passes test (slice_get (p ∷ ps) (cond (not b) (1 + position_or_len (nat_eq net) (map net_of ps)) 0))) miss
    ∙ ap (λ (k : ℕ). passes test (slice_get (p ∷ ps) k)) next)

-- of first pins one on a net passes where the first of them does
pub owner_first : (net : ℕ) (test : OwnedPin → Bool) (seen : List ℕ) (ps : List OwnedPin) → IsOwned net test (first_pins seen ps)
owner_first net test seen [] = refl
owner_first net test seen (p ∷ ps) =
    let rest : List OwnedPin = first_pins (p.pin.net ∷ seen) ps in
    elim (cases_Bool (stands_in seen p.pin.net)) [
      | inl old ↦
          subst (IsOwned net test) (sym (cond-true (stands_in seen p.pin.net) (first_pins seen ps) (p ∷ rest) old)) (owner_first net test seen ps)
      | inr new ↦
          subst (IsOwned net test) (sym (cond-false (stands_in seen p.pin.net) (first_pins seen ps) (p ∷ rest) new))
          (elim (cases_Bool (nat_eq net p.pin.net)) [
            | inl hit ↦
                owned_here net test p rest hit (none_seen net test (p.pin.net ∷ seen) ps (ap (λ (b : Bool). b || stands_in seen net) hit))
            | inr miss ↦ owned_later net test p rest miss (owner_first net test (p.pin.net ∷ seen) ps)
          ])
    ]

named_if : (cells : List CutCell) (name : List ℕ) (o : Option PinPlace) → ((at : PinPlace) → o ≡ Some at → IsInCells cells at)
    → is_named name (cell_of cells o) ≡ passes (λ (p : OwnedPin). bytes_eq name p.cell.name) (option_map (pin_at cells) o)
named_if cells name None inside = refl
named_if cells name (Some at) inside = ap (is_named name) (slice_get-get_or cells at.cell _ (inside at refl).cell)

-- the cell of the pin at a place has a name
pub named_at : (cells : List CutCell) (places : List PinPlace) (name : List ℕ) (k : ℕ) → All (IsInCells cells) places
    → is_named name (cell_of cells (slice_get places k)) ≡ passes (λ (p : OwnedPin). bytes_eq name p.cell.name) (slice_get (map (pin_at cells) places) k)
named_at cells places name k inside =
    named_if cells name (slice_get places k) (λ at is. all_at (IsInCells cells) places inside k at is)
    ∙ ap (passes (λ (p : OwnedPin). bytes_eq name p.cell.name)) (sym (slice_get-map (pin_at cells) places k))
