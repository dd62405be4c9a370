-- The common value of a cell some of whose pins are unknown (Eichelberger).
use Rattle.std.proofs.Common.{◌≡◌, ℕ, zero, suc, ◌<◌, Bool, true, false, not, ◌&&◌, refl, arith}
use Rattle.net_model.specs.Form.{PinForm, NotForm, AndForm, value}
use Rattle.net_model.specs.declared.terns.Tern.{Tern}
use Rattle.net_model.specs.declared.terns.Tern.TheVariants.{Zero, One, Unknown}
use Rattle.net_model.specs.Ternary.{IsCommonValue, Completes, tern_of}

-- place 0 is unknown, and the others have this value
abbrev args : Tern → ℕ → Tern
args other zero = Unknown
args other (suc k) = other

-- an and of places 0 and 1
abbrev and : (ℕ → Bool) → Bool
and = value (AndForm (PinForm 0) (PinForm 1))

-- where place 1 is 0, an and is 0 whatever the unknown one is
known_0_decides_an_and : IsCommonValue and (args Zero) Zero
known_0_decides_an_and true = ((λ same. cc), (λ all. let e = all (λ i. false) (fits true) in cc))
  where
    fits : (b : Bool) (i : ℕ) → i < 7 → Completes (args Zero i) false
    fits b zero below = tt
    fits b (suc i) below = refl
known_0_decides_an_and false = ((λ same bits fits. and_with_0 (bits 0) (bits 1) (fits 1 (omega arith))), (λ all. refl))
  where
    and_with_0 : (a b : Bool) → b ≡ false → (a && b) ≡ false
    and_with_0 true b zero_there = zero_there
    and_with_0 false b zero_there = refl

-- a place of a cell, its other ones being 1 where it is
abbrev all_of : Bool → ℕ → Bool
all_of b i = b

-- where place 1 is 1, an and is what the unknown one is, and so not 1
unknown_and_is_not_1 : ¬ IsCommonValue and (args One) One
unknown_and_is_not_1 common = let e = (common true).0 refl first_0 fits in cc
  where
    first_0 : ℕ → Bool
    first_0 zero = false
    first_0 (suc i) = true

    fits : (i : ℕ) → i < 7 → Completes (args One i) (first_0 i)
    fits zero below = tt
    fits (suc i) below = refl

-- and not 0
unknown_and_is_not_0 : ¬ IsCommonValue and (args One) Zero
unknown_and_is_not_0 common = let e = (common false).0 refl (all_of true) fits in cc
  where
    fits : (i : ℕ) → i < 7 → Completes (args One i) true
    fits zero below = tt
    fits (suc i) below = refl

-- a cell is taken as a whole: an unknown bit and its complement are 0, though each is unknown
unknown_bit_and_its_complement_are_0 : IsCommonValue (value (AndForm (PinForm 0) (NotForm (PinForm 0)))) (args Zero) Zero
unknown_bit_and_its_complement_are_0 b = (forth b, back b)
  where
    never : (a : Bool) → (a && not a) ≡ false
    never true = refl
    never false = refl

    forth : (b : Bool) → Zero ≡ tern_of b → (bits : ℕ → Bool) → ((i : ℕ) → i < 7 → Completes (args Zero i) (bits i)) → (bits 0 && not (bits 0)) ≡ b
    forth true same bits fits = cc
    forth false same bits fits = never (bits 0)

    fits : (i : ℕ) → i < 7 → Completes (args Zero i) false
    fits zero below = tt
    fits (suc i) below = refl

    back : (b : Bool) → ((bits : ℕ → Bool) → ((i : ℕ) → i < 7 → Completes (args Zero i) (bits i)) → (bits 0 && not (bits 0)) ≡ b) → Zero ≡ tern_of b
    back true all = let e = all (all_of false) fits in cc
    back false all = refl
