-- Binary search finds a pin exactly where the set has it.
use Rattle.std.proofs.Common.{◌≡◌, ℕ, Bool, true, false, List, length, get_or, refl, ap, sym, ◌∙◌, arith, inl, inr, is_eq}
use Rattle.std.specs.Prelude.{Contains, Result, Ok, Err, is_ok, IsTrue, ◌↔◌}
use Rattle.std.specs.List.Sorted.{IsSorted, IsBinarySearchResult, IsSearchInRange}
use Rattle.std.specs.declared.cmp.Ordering.TheVariants.{Less, Equal, Greater}
use Rattle.std.proofs.lemmas.Cmp.{tied_itself}
use Rattle.std.proofs.lemmas.List.Sorted.{searchable_from_sorted, list_any-IsPermutation}
use Rattle.std.proofs.lemmas.Bool.{cases_lt}
use Rattle.net_model.specs.Pins.{same_pin, is_in}
use Rattle.net_model.specs.PinSets.{IsAscending}
use Rattle.net_model.specs.declared.claims.PinRef.{PinRef}
use Rattle.net_model.specs.declared.claims.PinRef.TheVariants.{Net, GateIn, RegIn, OutPort}
use Rattle.net_model.specs.contracts.claims.PinRefOrd.TheImpl as ordered
use Rattle.net_model.specs.contracts.claims.PinRefPartialEq.TheImpl as compared
use Rattle.net_model.specs.contracts.claims.PinRefOrd.TheImpl.Laws.{total-law, matches_eq-law}
use Rattle.net_model.proofs.PinTests.{one_pin, is_in-Contains, Contains-is_in}

-- pins that the derived test takes for one are one
tested : (p q : PinRef) → (compared.ghosts).eq p q ≡ same_pin p q
tested (Net n) (Net m) = refl
tested (GateIn g i) (GateIn h j) = refl
tested (RegIn r i) (RegIn q j) = refl
tested (OutPort o) (OutPort p) = refl
tested (Net n) (GateIn h j) = refl
tested (Net n) (RegIn q j) = refl
tested (Net n) (OutPort p) = refl
tested (GateIn g i) (Net m) = refl
tested (GateIn g i) (RegIn q j) = refl
tested (GateIn g i) (OutPort p) = refl
tested (RegIn r i) (Net m) = refl
tested (RegIn r i) (GateIn h j) = refl
tested (RegIn r i) (OutPort p) = refl
tested (OutPort o) (Net m) = refl
tested (OutPort o) (GateIn h j) = refl
tested (OutPort o) (RegIn q j) = refl

-- pins of one place in the order are one
tied : (p q : PinRef) → (ordered.ghosts).cmp p q ≡ Equal → p ≡ q
tied p q e = one_pin p q (sym (tested p q) ∙ matches_eq-law p q ∙ ap is_eq e)

-- a pin is neither before nor after itself
below : (p q : PinRef) → p ≡ q → (ordered.ghosts).cmp p q ≡ Less → ⊥
below p q e less = let same = tied_itself total-law q in let here = ap (λ x. (ordered.ghosts).cmp x q) e in cc

above : (p q : PinRef) → p ≡ q → (ordered.ghosts).cmp p q ≡ Greater → ⊥
above p q e more = let same = tied_itself total-law q in let here = ap (λ x. (ordered.ghosts).cmp x q) e in cc

never : (b : Bool) → (b ≡ true → ⊥) → false ≡ b
never false not_true = refl
never true not_true = absurd (not_true refl)

-- what binary search answers in a list in ascending order
in_order : (pin : PinRef) (pins : List PinRef) (r : Result ℕ ℕ) → IsSorted (ordered.ghosts).cmp pins → IsSearchInRange r (length pins)
    → IsBinarySearchResult (λ y. (ordered.ghosts).cmp y pin) pins r → is_ok r ≡ is_in pin pins
in_order pin pins (Ok i) rises within found = sym (is_in-Contains pin pins (i, within, tied (get_or pins i pin) pin (found pin)))
in_order pin pins (Err i) rises within found =
    let parted = found (searchable_from_sorted total-law (λ x. x) pins pin rises) in
    never (is_in pin pins) (λ is.
    let has = Contains-is_in pin pins is in
    elim (cases_lt has.0 i) [
      | inl lt ↦ below (get_or pins has.0 pin) pin has.2 (parted.0 has.0 pin (omega arith) lt)
      | inr le ↦ above (get_or pins has.0 pin) pin has.2 (parted.1 has.0 pin le has.1)
    ])

-- what it answers in the ascending list of a set
pub found_exactly : (pin : PinRef) (listed ascending : List PinRef) (r : Result ℕ ℕ) → IsAscending (ordered.ghosts).cmp listed ascending
    → IsSearchInRange r (length ascending) → IsBinarySearchResult (λ y. (ordered.ghosts).cmp y pin) ascending r → is_ok r ≡ is_in pin listed
found_exactly pin listed ascending r is within found =
    in_order pin ascending r is.rises within found ∙ sym (list_any-IsPermutation (same_pin pin) listed ascending is.same)

-- an answer that tells whether a pin is in a set tells whether the set has it
pub found_listed : (pin : PinRef) (set : List PinRef) (answer : Bool) → answer ≡ is_in pin set → IsTrue answer ↔ Contains set pin
found_listed pin set answer same =
    (λ yes. Contains-is_in pin set (sym same ∙ yes), λ has. same ∙ is_in-Contains pin set has)
