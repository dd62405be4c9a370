-- The input bit that a source is.
use Rattle.std.proofs.Common.{◌≡◌, true, if◌then◌else◌, List, [], ◌∷◌, ℕ, refl, subst}
use Rattle.std.specs.Prelude.{Some, None, slice_get}
use Rattle.std.specs.List.{list_all}
use Rattle.std.specs.Str.{bytes_eq}
use Rattle.std.proofs.lemmas.Option.{same_Some}
use Rattle.std.proofs.lemmas.Slice.Eq.{bytes_eq-Decides}
use Rattle.linked_types.specs.declared.names.PortName.{PortName}
use Rattle.sdc_settings.specs.Sources.{one_name, source_bit}

-- the one name of a list is its first one, if all are it
pub first_name : (names : List (List ℕ)) (name : List ℕ) → slice_get names 0 ≡ Some name
    → one_name names ≡ (if list_all (bytes_eq name) names then Some name else None)
first_name [] name at = absurd cc
first_name (n ∷ names) name at =
    let itself : bytes_eq n n ≡ true = (bytes_eq-Decides n n).1 refl in
    let here : one_name (n ∷ names) ≡ (if list_all (bytes_eq n) (n ∷ names) then Some n else None) = rw itself refl in
    subst (λ (x : List ℕ). one_name (n ∷ names) ≡ (if list_all (bytes_eq x) (n ∷ names) then Some x else None)) (same_Some n name at) here

-- no source is no bit
pub no_source : (inputs : List PortName) → source_bit inputs [] ≡ None
unfolding source_bit
no_source inputs = refl
