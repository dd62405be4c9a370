-- What is left of a list from a place on.
use Rattle.std.proofs.Common.{◌≡◌, ◌∙◌, ℕ, ◌+◌, Bool, true, false, ◌&&◌, List, ◌∷◌, drop, refl, ap}
use Rattle.std.specs.Prelude.{Some, slice_get}
use Rattle.std.proofs.lemmas.List.{drop_more}
use Rattle.std.proofs.lemmas.Option.{slice_get_within, get_or_from_slice_get}

-- the item there, and then the rest
pub drop_here : {A : Type 0} (xs : List A) (k : ℕ) (x : A) → slice_get xs k ≡ Some x → drop k xs ≡ x ∷ drop (k + 1) xs
drop_here xs k x here =
    drop_more xs k x (slice_get_within xs k x here) ∙ ap (λ y. y ∷ drop (k + 1) xs) (get_or_from_slice_get xs k x x here)

-- two tests of which one fails
pub first_fails : (a b : Bool) → a ≡ false → (a && b) ≡ false
first_fails a b fails = ap (λ (t : Bool). t && b) fails

pub second_fails : (a b : Bool) → b ≡ false → (a && b) ≡ false
second_fails true b fails = fails
second_fails false b fails = refl
