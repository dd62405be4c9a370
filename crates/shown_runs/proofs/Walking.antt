-- Paths that grow by a pin at their front, and the through sets that they meet there.
use Rattle.std.proofs.Common.{arith, ◌≡◌, ℕ, zero, suc, ◌+◌, ◌-◌, ◌<◌, ◌≤◌, true, List, [], ◌∷◌, length, drop, get_or, refl, subst}
use Rattle.std.proofs.lemmas.List.{drop_more}
use Rattle.net_model.specs.Pins.{is_in}
use Rattle.net_model.specs.Layers.{held_set}
use Rattle.net_model.specs.Paths.{Meets}
use Rattle.net_model.proofs.PinTests.{Contains-is_in}
use Rattle.net_model.specs.declared.claims.PinRef.{PinRef}

drop_one : (k : ℕ) (pin : PinRef) (path : List PinRef) → drop (1 + k) (pin ∷ path) ≡ drop k path
drop_one k pin path = let same : 1 + k ≡ suc k = omega arith in rw same refl

-- what a path meets, it meets with one more pin at its front
pub meets_later : (sets : List (List PinRef)) (pin : PinRef) (path : List PinRef) → Meets sets path → Meets sets (pin ∷ path)
meets_later [] pin path meets = tt
meets_later (set ∷ sets) pin path (place, (at_pin, at, has), rest) =
    (suc place, (at_pin, at, has), rest)

-- at a pin that the set of a layer has, that set is met too
pub meets_held : (sets : List (List PinRef)) (layer : ℕ) (pin : PinRef) (path : List PinRef) → layer ≤ length sets
    → is_in pin (held_set sets layer) ≡ true → Meets (drop layer sets) (pin ∷ path) → Meets (drop (layer - 1) sets) (pin ∷ path)
meets_held sets zero pin path low held meets = cc
meets_held sets (suc l) pin path low held meets =
    let here : l < length sets = omega arith in
    let less : suc l - 1 ≡ l = omega arith in
    let more : suc l ≡ l + 1 = omega arith in
    let rest : Meets (drop (l + 1) sets) (pin ∷ path) = subst (λ (n : ℕ). Meets (drop n sets) (pin ∷ path)) more meets in
    let at_front : Meets (get_or sets l [] ∷ drop (l + 1) sets) (pin ∷ path) = (0, (pin, refl, Contains-is_in pin (get_or sets l []) held), rest) in
    rw (less, drop_more sets l [] here) at_front
