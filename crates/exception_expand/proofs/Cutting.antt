-- Pairs found start by start.
use Rattle.std.proofs.Common.{arith, ◌≡◌, ◌∙◌, ℕ, ◌+◌, ◌<◌, ◌≤◌, List, [], ◌++◌, length, take, drop, flat_map, refl, sym, ap, subst, append-nil}
use Rattle.std.specs.Prelude.{slice_get, Some}
use Rattle.std.proofs.lemmas.List.{take_all, take-append-drop}
use Rattle.std.proofs.lemmas.Grind.{flat_map-append}
use Rattle.net_paths.specs.Those.{AreThose}
use Rattle.net_paths.proofs.Sifting.{those_append}
use Rattle.exception_expand.specs.Cuts.{IsCut, AddsThose}
use Rattle.list_laws.proofs.Joining.{flat_next}

-- those of what is made of the first items, and of the next one
pub those_next : {A B : Type 0} (f : A → List B) (P : B → Type 0) (xs : List A) (k : ℕ) (x : A) (old new : List B) → slice_get xs k ≡ Some x
    → AreThose P (flat_map f (take k xs)) old → AddsThose P (f x) old new → AreThose P (flat_map f (take (k + 1) xs)) new
those_next {A} {B} f P xs k x old new here those adds =
    subst (AreThose P (flat_map f (take (k + 1) xs))) (sym adds.joined)
    (subst (λ (l : List B). AreThose P l (old ++ adds.more)) (sym (flat_next f xs k x here))
    (those_append P (flat_map f (take k xs)) old (f x) adds.more those adds.those))

-- a search that stopped
pub cut_here : {A B : Type 0} (f : A → List B) (P : B → Type 0) (xs : List A) (k most : ℕ) (found : List B)
    → AreThose P (flat_map f (take k xs)) found → most < length found → IsCut P (flat_map f xs) most found
cut_here f P xs k most found those more = record {
  first = flat_map f (take k xs);
  rest = flat_map f (drop k xs);
  whole = ap (flat_map f) (sym (take-append-drop k xs)) ∙ flat_map-append f (take k xs) (drop k xs);
  those = those;
  done = λ few. absurd (omega (arith, few, more));
}

-- a search that went to the end
pub cut_nowhere : {A B : Type 0} (f : A → List B) (P : B → Type 0) (xs : List A) (k most : ℕ) (found : List B)
    → AreThose P (flat_map f (take k xs)) found → length xs ≤ k → IsCut P (flat_map f xs) most found
cut_nowhere {A} {B} f P xs k most found those past = record {
  first = flat_map f xs;
  rest = [];
  whole = sym (append-nil (flat_map f xs));
  those = subst (λ (l : List A). AreThose P (flat_map f l) found) (take_all k xs past) those;
  done = λ few. refl;
}
