-- What holds of all items of a list.
use Rattle.std.proofs.Common.{arith, ◌≢◌, Bool, true, false, not, refl, ◌≡◌, ◌∙◌, ℕ, zero, suc, ◌+◌, ◌≤◌, List, [], ◌∷◌, take, length, sym, subst, ap}
use Rattle.std.specs.Prelude.{All, Contains, Some, slice_get}
use Rattle.std.proofs.lemmas.List.{take_all}
use Rattle.net_model.specs.Netlist.{setting_inputs}
use Rattle.net_model.specs.declared.netlist.Fixed.{Fixed}
use Rattle.std.proofs.lemmas.List.Elements.{All-more}
use Rattle.std.proofs.lemmas.Option.{slice_get_within, get_or_from_slice_get, slice_get-get_or}

pub holds : {A : Type 0} (P : A → Type 0) (xs : List A) (x : A) → All P xs → Contains xs x → P x
holds P xs x all (i, low, is) = subst P is (all i x low)

pub holds_at : {A : Type 0} (P : A → Type 0) (xs : List A) (k : ℕ) (x : A) → All P xs → slice_get xs k ≡ Some x → P x
holds_at P xs k x all here = subst P (get_or_from_slice_get xs k x x here) (all k x (slice_get_within xs k x here))

pub one_more : {A : Type 0} (P : A → Type 0) (xs : List A) (k : ℕ) (x : A) → slice_get xs k ≡ Some x → All P (take k xs) → P x → All P (take (k + 1) xs)
one_more P xs k x here all p =
    All-more P xs k x (slice_get_within xs k x here) all (subst P (sym (get_or_from_slice_get xs k x x here)) p)

pub of_all : {A : Type 0} (P : A → Type 0) (xs : List A) (k : ℕ) → length xs ≤ k → All P (take k xs) → All P xs
of_all P xs k past all = subst (All P) (take_all k xs past) all

pub is_in_at : {A : Type 0} (xs : List A) (x : A) → Contains xs x → (k : ℕ) × (slice_get xs k ≡ Some x)
is_in_at {A} xs x (i, low, is) = (i, slice_get-get_or xs i x low ∙ ap (λ (y : A). Some y) is)

pub at_is_in : {A : Type 0} (xs : List A) (k : ℕ) (x : A) → slice_get xs k ≡ Some x → Contains xs x
at_is_in xs k x here = (k, slice_get_within xs k x here, get_or_from_slice_get xs k x x here)

pub wasnt : (b : Bool) → true ≡ not b → b ≡ false
wasnt true e = absurd cc
wasnt false e = refl

-- an input that none of these is of is not among theirs
pub is_input_at : (fixed : List Fixed) (input : ℕ) → All (λ (f : Fixed). f.input ≢ input) fixed → Contains (setting_inputs fixed) input → ⊥
is_input_at [] input none (i, low, is) = omega (arith, low)
is_input_at (f ∷ fs) input none (zero, low, is) = none 0 f (omega arith) is
is_input_at (f ∷ fs) input none (suc i, low, is) =
    is_input_at fs input (λ k d within. none (suc k) d (omega (arith, within))) (i, omega (arith, low), is)

pub first_and_others : {A : Type 0} (P : A → Type 0) (x : A) (xs : List A) → P x → All P xs → All P (x ∷ xs)
first_and_others P x xs p all zero d low = p
first_and_others P x xs p all (suc i) d low = all i d (omega (arith, low))
