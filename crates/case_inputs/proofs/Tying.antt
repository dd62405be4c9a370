-- The first assumption that is of a load pin.
use Rattle.std.proofs.Common.{◌≡◌, ◌⊎◌, ℕ, zero, suc, ◌<◌, true, false, List, [], ◌∷◌, ◌++◌, length, refl, ap, sym, ◌∙◌, arith, inl, inr}
use Rattle.std.specs.Prelude.{Option, Some, None, option_map, slice_get, flat_map}
use Rattle.std.proofs.lemmas.Bool.{cases_Bool, or_parts, or_from}
use Rattle.std.proofs.lemmas.List.{length-map}
use Rattle.std.proofs.lemmas.List.Folds.{list_any-append}
use Rattle.net_model.specs.Pins.{same_pin, is_in}
use Rattle.net_model.specs.declared.claims.PinRef.{PinRef}
use Rattle.net_model.specs.declared.claims.PinRef.TheVariants.{Net}
use Rattle.case_inputs.specs.declared.assumptions.Assumed.{Assumed}
use Rattle.case_inputs.specs.Ties.{is_of, first_of, pins_of, pin_sets, all_pins}

abbrev pub joined : List (List PinRef) → List PinRef
joined sets = flat_map (λ (pins : List PinRef). pins) sets

-- the pins of all assumptions are those of all sets
pub joined_is : (assumed : List Assumed) → all_pins assumed ≡ joined (pin_sets assumed)
joined_is [] = refl
joined_is (a ∷ rest) = ap (λ (pins : List PinRef). a.pins ++ pins) (joined_is rest)

pub length-pin_sets : (assumed : List Assumed) → length (pin_sets assumed) ≡ length assumed
length-pin_sets assumed = length-map assumed pins_of

-- where the first assumption is not of the pin, the others count
past_first : (sets : List (List PinRef)) (pins : List PinRef) (pin : PinRef) (net : ℕ) (o : Option ℕ) → is_of pins pin net ≡ false
    → first_of sets pin net ≡ o → first_of (pins ∷ sets) pin net ≡ option_map suc o
past_first sets pins pin net o none rest = rw none (ap (option_map suc) rest)

-- where none is
pub none_is : (sets : List (List PinRef)) (pin : PinRef) (net : ℕ) → ((i : ℕ) (q : List PinRef) → slice_get sets i ≡ Some q → is_of q pin net ≡ false)
    → first_of sets pin net ≡ None
none_is [] pin net none = refl
none_is (pins ∷ sets) pin net none =
    past_first sets pins pin net None (none zero pins refl) (none_is sets pin net (λ i q at. none (suc i) q at))

-- where one is and none before it
pub first_is : (sets : List (List PinRef)) (pin : PinRef) (net j : ℕ) (pins : List PinRef) → slice_get sets j ≡ Some pins → is_of pins pin net ≡ true
    → ((i : ℕ) (q : List PinRef) → i < j → slice_get sets i ≡ Some q → is_of q pin net ≡ false) → first_of sets pin net ≡ Some j
first_is [] pin net j pins at is none = cc
first_is (s ∷ sets) pin net zero pins at is none =
    let same : s ≡ pins = cc in let here : is_of s pin net ≡ true = ap (λ (q : List PinRef). is_of q pin net) same ∙ is in rw here refl
first_is (s ∷ sets) pin net (suc j) pins at is none =
    past_first sets s pin net (Some j) (none zero s (omega arith) refl)
    (first_is sets pin net j pins at is (λ i q lt there. none (suc i) q (omega arith) there))

-- a set of all pins that has neither the pin nor its net tells that none is
pub not_named : (sets : List (List PinRef)) (pin : PinRef) (net : ℕ) → is_in pin (joined sets) ≡ false → is_in (Net net) (joined sets) ≡ false
    → first_of sets pin net ≡ None
not_named [] pin net apart away = refl
not_named (pins ∷ sets) pin net apart away =
    let own = or_parts (is_in pin pins) (is_in pin (joined sets)) (sym (list_any-append (same_pin pin) pins (joined sets)) ∙ apart) in
    let all = or_parts (is_in (Net net) pins) (is_in (Net net) (joined sets)) (sym (list_any-append (same_pin (Net net)) pins (joined sets)) ∙ away) in
    past_first sets pins pin net None (or_from (is_in pin pins) (is_in (Net net) pins) own.0 all.0) (not_named sets pin net own.1 all.1)

option_suc : (o : Option ℕ) (j : ℕ) → option_map suc o ≡ Some j → (i : ℕ) × (o ≡ Some i) × (suc i ≡ j)
option_suc None j e = cc
option_suc (Some i) j e = (i, refl, cc)

-- the first one is an assumption
pub first_within : (sets : List (List PinRef)) (pin : PinRef) (net j : ℕ) → first_of sets pin net ≡ Some j → j < length sets
first_within [] pin net j is = cc
first_within (pins ∷ sets) pin net j is = elim (cases_Bool (is_of pins pin net)) [
  | inl here ↦ let first : first_of (pins ∷ sets) pin net ≡ Some 0 = rw here refl in let same : 0 ≡ j = cc in omega arith
  | inr apart ↦
      let later = option_suc (first_of sets pin net) j (sym (past_first sets pins pin net (first_of sets pin net) apart refl) ∙ is) in
      let within = first_within sets pin net later.0 later.1 in
      omega (arith, within, later.2)
]

-- a pin's own net or that of an assumption
pub cases_first : (o : Option ℕ) → (o ≡ None) ⊎ ((j : ℕ) × (o ≡ Some j))
cases_first None = inl refl
cases_first (Some j) = inr (j, refl)
