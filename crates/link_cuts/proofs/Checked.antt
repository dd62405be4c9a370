-- Why cells can't be cut out, and outputs on nets that the circuit drives.
use Rattle.std.proofs.Common.{◌≡◌, ℕ, ◌<◌, ◌⊎◌, Bool, true, false, ◌&&◌, ◌||◌, List, [], ◌∷◌, length, All, Some, None, refl, ap, sym, ◌∙◌, subst, inl, inr}
use Rattle.std.specs.Prelude.{Contains, Option, nat_eq, slice_get}
use Rattle.std.proofs.lemmas.Bool.{and_parts, eq-eqb, eqb-true, or_cases, or_left, or_right}
use Rattle.std.proofs.lemmas.List.Elements.{All-contains}
use Rattle.std.proofs.lemmas.Option.{slice_get_within, get_or_from_slice_get}
use Rattle.sdcv_base.specs.Seqs.{is_marked}
use Rattle.net_model.proofs.Members.{In, In-from_Contains, Contains-from_In}
use Rattle.linked_types.specs.declared.faults.LinkFault.{LinkFault}
use Rattle.linked_types.specs.declared.faults.LinkFault.TheVariants as fault
use Rattle.link_defs.specs.declared.circuits.Circuit.{Circuit}
use Rattle.link_defs.specs.declared.cuts.CutCell.{CutCell}
use Rattle.link_defs.specs.declared.cuts.CutPin.{CutPin}
use Rattle.link_defs.specs.declared.cuts.Way.{Way}
use Rattle.link_defs.specs.declared.cuts.Way.TheVariants as way
use Rattle.link_defs.specs.Circuits.{all_drivers}
use Rattle.link_defs.specs.Cuts.{stands_in}
use Rattle.link_cuts.specs.declared.places.PinPlace.{PinPlace}
use Rattle.link_cuts.specs.Checks.{IsFaultOf, IsCellFault, IsDrivenPin}
use Rattle.link_cuts.specs.Cutting.{cell_at, own_pin, IsInCells, IsRowOf}
use Rattle.link_cuts.specs.Outs.{is_out, is_driven, IsDrivenOf, IsDrivenPlace}

-- the fault of one cell is one of the cells
pub fault_in : (cells : List CutCell) (x : CutCell) (e : LinkFault) → Contains cells x → IsFaultOf x e → IsCellFault cells e
fault_in cells x (fault.UnknownPin n) has (pin, is, named) = (x, pin, has, is, named)
fault_in cells x (fault.ManyDrivers n) has (pin, is, named) = (x, pin, has, is, named)
fault_in cells x (fault.UnknownCell n) has is = is
fault_in cells x (fault.UnsupportedCell n) has is = is
fault_in cells x (fault.OpenInput n) has is = is
fault_in cells x (fault.Undriven n) has is = is
fault_in cells x (fault.Loop n) has is = is
fault_in cells x (fault.NotTheClock n) has is = is
fault_in cells x (fault.ClockAsData n) has is = is
fault_in cells x (fault.NameClash n) has is = is
fault_in cells x (fault.Recursive n) has is = is
fault_in cells x (fault.NoTop n) has is = is
fault_in cells x (fault.Limit k n) has is = is
fault_in cells x (fault.BadSetting n) has is = is
fault_in cells x fault.Memory has is = tt

-- a net that is found in a list stands there
pub stands_there : (net : ℕ) (nets : List ℕ) → stands_in nets net ≡ true → In net nets
stands_there net [] hit = cc
stands_there net (x ∷ xs) hit = elim (or_cases (nat_eq net x) (stands_in xs net) hit) [
  | inl here ↦ inl (sym (eqb-true net x here))
  | inr later ↦ inr (stands_there net xs later)
]

-- and one that stands there is found
pub there_stands : (net : ℕ) (nets : List ℕ) → In net nets → stands_in nets net ≡ true
there_stands net [] has = absurd has
there_stands net (x ∷ xs) (inl here) = or_left (nat_eq net x) (stands_in xs net) (eq-eqb net x (sym here))
there_stands net (x ∷ xs) (inr later) = or_right (nat_eq net x) (stands_in xs net) (there_stands net xs later)

out_is : (w : Way) → is_out w ≡ true → w ≡ way.Out
out_is way.In hit = cc
out_is way.Out hit = refl
out_is way.Either hit = cc

-- an output on a marked net of a cell at a place
pub place_told : (driven : List Bool) (cells : List CutCell) (k pin : ℕ) (x : CutCell) → slice_get cells k ≡ Some x → IsDrivenOf driven x.pins (Some pin)
    → IsDrivenPlace driven cells (Some (record { cell = k; pin = pin }))
place_told driven cells k pin x at (p, at_p, hit) =
    let x_is : cell_at cells k ≡ x = get_or_from_slice_get cells k x _ at in
    let p_is : own_pin (cell_at cells k) pin ≡ p = ap (λ (y : CutCell). own_pin y pin) x_is ∙ get_or_from_slice_get x.pins pin p _ at_p in (
      record {
        cell = slice_get_within cells k x at;
        pin = subst (λ (y : CutCell). pin < length y.pins) (sym x_is) (slice_get_within x.pins pin p at_p);
      },
      ap (is_driven driven) p_is ∙ hit,
    )

-- by a row of the nets that the circuit drives
pub pin_told : (c : Circuit) (cells : List CutCell) (driven : List Bool) (r : Option PinPlace) → IsRowOf c.nets (all_drivers c) driven
    → IsDrivenPlace driven cells r → IsDrivenPin c cells r
pin_told c cells driven None row none = λ x p has has_p out there.
    let miss : is_driven driven p ≡ false = All-contains (λ (q : CutPin). is_driven driven q ≡ false) x.pins p
    (All-contains (λ (y : CutCell). All (λ (q : CutPin). is_driven driven q ≡ false) y.pins) cells x none has) has_p in
    let marked : is_marked driven p.net ≡ true = row.marks p.net ∙ there_stands p.net (all_drivers c) (In-from_Contains (all_drivers c) p.net there) in
    let hit : is_driven driven p ≡ true = ap (λ (w : Way). is_out w && is_marked driven p.net) out ∙ marked in
    let e = sym miss ∙ hit in cc
pin_told c cells driven (Some at) row (inside, hit) =
    let p : CutPin = own_pin (cell_at cells at.cell) at.pin in
    let (out, marked) = and_parts (is_out p.way) (is_marked driven p.net) hit in (
      inside,
      out_is p.way out,
      Contains-from_In (all_drivers c) p.net (stands_there p.net (all_drivers c) (sym (row.marks p.net) ∙ marked)),
    )
