-- What a column gives for one thing more, and a list of objects for one object more.
use Rattle.std.proofs.Common.{◌≡◌, ◌∙◌, ℕ, ◌+◌, Bool, true, false, not, List, ◌++◌, take, sym, ap, refl, flat_map}
use Rattle.std.specs.Prelude.{Option, Some, slice_get}
use Rattle.std.proofs.lemmas.List.Sums.{count_by_more_yes, count_by_more_no}
use Rattle.std.proofs.lemmas.Option.{slice_get_within, get_or_from_slice_get}
use Rattle.linked_types.specs.declared.names.Linked.{Linked}
use Rattle.script_types.specs.declared.objects.Object.{Object}
use Rattle.script_types.specs.declared.scripts.Script.{Script}
use Rattle.selected_types.specs.declared.warnings.Warning.{Warning}
use Rattle.sdc_objects.specs.declared.things.Place.{Place}
use Rattle.sdc_objects.specs.declared.things.Thing.{Thing}
use Rattle.sdc_objects.specs.Standing.{is_dropped, meant_by, meant_of, dropped_of, named, meant, warnings, warnings_of}
use Rattle.list_laws.proofs.Joining.{flat_next, pushed}

was : (b : Bool) → false ≡ not b → b ≡ true
was true e = refl
was false e = absurd cc

wasnt : (b : Bool) → true ≡ not b → b ≡ false
wasnt true e = absurd cc
wasnt false e = refl

-- one more that is dropped
pub dropped_more : {A : Type 0} (column : Thing → Option (List A)) (xs : List Thing) (k : ℕ) (t : Thing) (kept : Bool) (before now : ℕ) → slice_get xs k ≡ Some t
    → kept ≡ not (is_dropped (column t)) → kept ≡ false → before ≡ dropped_of column (take k xs) → now ≡ before + 1 → now ≡ dropped_of column (take (k + 1) xs)
dropped_more column xs k t kept before now here is drops was_count turn =
    let test : Thing → Bool = λ (x : Thing). is_dropped (column x) in
    let at = ap test (get_or_from_slice_get xs k t t here) in
    turn ∙ ap (λ (n : ℕ). n + 1) was_count ∙ sym (count_by_more_yes test xs k t (slice_get_within xs k t here) (at ∙ was (test t) (sym drops ∙ is)))

-- one more that is not
pub kept_more : {A : Type 0} (column : Thing → Option (List A)) (xs : List Thing) (k : ℕ) (t : Thing) (kept : Bool) (before now : ℕ) → slice_get xs k ≡ Some t
    → kept ≡ not (is_dropped (column t)) → kept ≡ true → before ≡ dropped_of column (take k xs) → now ≡ before → now ≡ dropped_of column (take (k + 1) xs)
kept_more column xs k t kept before now here is keeps was_count turn =
    let test : Thing → Bool = λ (x : Thing). is_dropped (column x) in
    let at = ap test (get_or_from_slice_get xs k t t here) in
    turn ∙ was_count ∙ sym (count_by_more_no test xs k t (slice_get_within xs k t here) (at ∙ wasnt (test t) (sym keeps ∙ is)))

-- what they stand for
pub meant_more : {A : Type 0} (column : Thing → Option (List A)) (xs : List Thing) (k : ℕ) (t : Thing) (old now new : List A) → slice_get xs k ≡ Some t
    → now ≡ old ++ meant_of column (take k xs) → new ≡ now ++ meant_by (column t) → new ≡ old ++ meant_of column (take (k + 1) xs)
meant_more {A} column xs k t old now new here before turn =
    let of : Thing → List A = λ (x : Thing). meant_by (column x) in
    pushed old now new (of t) (flat_map of (take (k + 1) xs)) (flat_map of (take k xs)) before turn (flat_next of xs k t here)

-- what one object more stands for, and its warnings
pub object_more : {A : Type 0} (column : Thing → Option (List A)) (l : Linked) (script : Script) (strict : Bool) (place : Place) (xs : List Object)
    (k : ℕ) (o : Object) (now new : List A) → slice_get xs k ≡ Some o → now ≡ meant column l script strict place (take k xs)
    → new ≡ now ++ meant_of column (named l script strict place o) → new ≡ meant column l script strict place (take (k + 1) xs)
object_more {A} column l script strict place xs k o now new here before turn =
    let of : Object → List A = λ (x : Object). meant_of column (named l script strict place x) in
    turn ∙ ap (λ (ys : List A). ys ++ of o) before ∙ sym (flat_next of xs k o here)

pub warnings_more : {A : Type 0} (column : Thing → Option (List A)) (l : Linked) (script : Script) (strict : Bool) (place : Place) (xs : List Object)
    (k : ℕ) (o : Object) (old now new : List Warning) → slice_get xs k ≡ Some o → now ≡ old ++ warnings column l script strict place (take k xs)
    → new ≡ now ++ warnings_of column l script strict place o → new ≡ old ++ warnings column l script strict place (take (k + 1) xs)
warnings_more column l script strict place xs k o old now new here before turn =
    let of : Object → List Warning = warnings_of column l script strict place in
    pushed old now new (of o) (flat_map of (take (k + 1) xs)) (flat_map of (take k xs)) before turn (flat_next of xs k o here)
