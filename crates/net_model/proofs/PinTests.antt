-- The test of a set of pins finds a pin exactly where the set has it.
use Rattle.std.proofs.Common.{◌≡◌, ℕ, suc, ◌+◌, Bool, true, false, List, [], Some, refl, ap, ◌∙◌, arith}
use Rattle.std.specs.Prelude.{Contains, slice_get, ◌==◌, ◌&&◌}
use Rattle.std.proofs.lemmas.Bool.{eqb-true, eq-eqb}
use Rattle.std.proofs.lemmas.List.Folds.{list_any_at}
use Rattle.std.proofs.lemmas.Map.Views.{Contains-from_any}
use Rattle.std.proofs.lemmas.Option.{get_or_from_slice_get}
use Rattle.net_model.specs.Pins.{same_pin, is_in}
use Rattle.net_model.specs.Layers.{held_set}
use Rattle.net_model.specs.declared.claims.PinRef.{PinRef}
use Rattle.net_model.specs.declared.claims.PinRef.TheVariants.{Net, GateIn, RegIn, OutPort}

both_true : (a b : Bool) → (a && b) ≡ true → (a ≡ true) × (b ≡ true)
both_true true true e = (refl, refl)
both_true true false e = cc
both_true false b e = cc

two_true : (g h i j : ℕ) → ((g == h) && (i == j)) ≡ true → (g ≡ h) × (i ≡ j)
two_true g h i j e =
    let both = both_true (g == h) (i == j) e in (eqb-true g h both.0, eqb-true i j both.1)

pub one_pin : (p q : PinRef) → same_pin p q ≡ true → p ≡ q
one_pin (Net n) (Net m) e = ap Net (eqb-true n m e)
one_pin (GateIn g i) (GateIn h j) e =
    let two = two_true g h i j e in ap (λ (k : ℕ). GateIn k i) two.0 ∙ ap (λ (k : ℕ). GateIn h k) two.1
one_pin (RegIn r i) (RegIn q j) e =
    let two = two_true r q i j e in ap (λ (k : ℕ). RegIn k i) two.0 ∙ ap (λ (k : ℕ). RegIn q k) two.1
one_pin (OutPort o) (OutPort p) e = ap OutPort (eqb-true o p e)
one_pin (Net n) (GateIn h j) e = cc
one_pin (Net n) (RegIn q j) e = cc
one_pin (Net n) (OutPort p) e = cc
one_pin (GateIn g i) (Net m) e = cc
one_pin (GateIn g i) (RegIn q j) e = cc
one_pin (GateIn g i) (OutPort p) e = cc
one_pin (RegIn r i) (Net m) e = cc
one_pin (RegIn r i) (GateIn h j) e = cc
one_pin (RegIn r i) (OutPort p) e = cc
one_pin (OutPort o) (Net m) e = cc
one_pin (OutPort o) (GateIn h j) e = cc
one_pin (OutPort o) (RegIn q j) e = cc

same_true : (n : ℕ) → (n == n) ≡ true
same_true n = eq-eqb n n refl

own_pin : (p : PinRef) → same_pin p p ≡ true
own_pin (Net n) = same_true n
own_pin (GateIn g i) = rw (same_true g, same_true i) refl
own_pin (RegIn r i) = rw (same_true r, same_true i) refl
own_pin (OutPort o) = same_true o

pub is_in-Contains : (pin : PinRef) (set : List PinRef) → Contains set pin → is_in pin set ≡ true
is_in-Contains pin set has = list_any_at (same_pin pin) set has.0 pin has.1 (ap (same_pin pin) has.2 ∙ own_pin pin)

pub Contains-is_in : (pin : PinRef) (set : List PinRef) → is_in pin set ≡ true → Contains set pin
Contains-is_in pin set is = Contains-from_any {eq = same_pin} one_pin pin set is

-- the set of a layer after the first
pub held_set-after : (sets : List (List PinRef)) (layer place : ℕ) (set : List PinRef) → layer ≡ place + 1 → slice_get sets place ≡ Some set
    → held_set sets layer ≡ set
held_set-after sets layer place set next at =
    let e : layer ≡ suc place = omega arith in rw e (get_or_from_slice_get sets place set [] at)
