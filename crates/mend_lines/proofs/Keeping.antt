-- The items of a list that are kept, one at a time.
use Rattle.std.proofs.Common.{◌≡◌, ◌∙◌, ℕ, ◌+◌, Bool, List, [], ◌∷◌, ◌++◌, take, ap}
use Rattle.std.specs.Prelude.{Some, slice_get, filter, if◌then◌else◌}
use Rattle.std.proofs.lemmas.List.Elements.{filter-append}
use Rattle.list_laws.proofs.Joining.{take_next}

-- those of the items up to a place, and the one there if it is kept
pub filter_next : {A : Type 0} (p : A → Bool) (xs : List A) (k : ℕ) (x : A) → slice_get xs k ≡ Some x
    → filter p (take (k + 1) xs) ≡ filter p (take k xs) ++ (if p x then x ∷ [] else [])
filter_next {A} p xs k x here = ap (filter p) (take_next xs k x here) ∙ filter-append p (take k xs) (x ∷ [])
