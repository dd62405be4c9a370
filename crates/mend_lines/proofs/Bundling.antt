-- The first bundle of a list of objects.
use Rattle.std.proofs.Common.{◌≡◌, ◌≢◌, ◌∙◌, ℕ, suc, ◌+◌, ◌-◌, ◌<◌, ◌≤◌, ◌==◌, Bool, true, false, not, inl, inr, List, [], ◌∷◌, length, take, drop, refl, ap, sym, arith}
use Rattle.std.specs.Prelude.{Some, slice_get, if◌then◌else◌}
use Rattle.std.proofs.lemmas.List.{drop-drop, drop_all, nil_from_length}
use Rattle.std.proofs.lemmas.Bool.Decides.{eqb_tells}
use Rattle.list_laws.proofs.Joining.{item_at}
use Rattle.script_types.specs.declared.objects.Object.{Object}
use Rattle.mend_lines.specs.Lines.{bundled, go_together}
use Rattle.script_notices.proofs.Rests.{drop_here}

-- how many objects go together with the one before them, one after another
unfoldable pub run_after : Object → List Object → ℕ
run_after last [] = 0
run_after last (next ∷ more) = if go_together last next then suc (run_after next more) else 0

if_run : (b : Bool) (o x : Object) (more : List Object) (m : ℕ) → bundled (x ∷ more) ≡ (x ∷ take m more) ∷ bundled (drop m more)
    → (if b then (o ∷ x ∷ take m more) ∷ bundled (drop m more) else (o ∷ []) ∷ (x ∷ take m more) ∷ bundled (drop m more)) ≡
    (o ∷ take (if b then suc m else 0) (x ∷ more)) ∷ bundled (drop (if b then suc m else 0) (x ∷ more))
if_run true o x more m e = refl
if_run false o x more m e = ap (λ (bundles : List (List Object)). (o ∷ []) ∷ bundles) (sym e)

-- an object before some bundles
abbrev with_next : Object → List (List Object) → List (List Object)
with_next o bundles = elim bundles [
  | [] ↦ (o ∷ []) ∷ []
  | [] ∷ rest ↦ (o ∷ []) ∷ rest
  | (next ∷ more) ∷ rest ↦ if go_together o next then (o ∷ next ∷ more) ∷ rest else (o ∷ []) ∷ (next ∷ more) ∷ rest
]

-- the first object with those that go with it, and then the bundles of the others
pub bundled_run : (o : Object) (objects : List Object)
    → bundled (o ∷ objects) ≡ (o ∷ take (run_after o objects) objects) ∷ bundled (drop (run_after o objects) objects)
unfolding bundled run_after
bundled_run o [] = refl
bundled_run o (x ∷ more) =
    ap (with_next o) (bundled_run x more) ∙ if_run (go_together o x) o x more (run_after x more) (bundled_run x more)

-- a list whose first bundle ends at this place
pub bundle_at : (objects : List Object) (from end : ℕ) (o : Object) → slice_get objects from ≡ Some o
    → run_after o (drop (from + 1) objects) + (from + 1) ≡ end
    → bundled (drop from objects) ≡ take (end - from) (drop from objects) ∷ bundled (drop end objects)
bundle_at objects from end o here ends =
    let n = run_after o (drop (from + 1) objects) in
    let rest = drop (from + 1) objects in
    let size : suc n ≡ end - from = omega arith in
    let past : (from + 1) + n ≡ end = omega arith in
    ap bundled (drop_here objects from o here) ∙ bundled_run o rest
    ∙ ap (λ (left : List Object). take (suc n) (o ∷ rest) ∷ bundled left) (drop-drop n (from + 1) objects ∙ ap (λ (k : ℕ). drop k objects) past)
    ∙ ap (λ (left : List Object). take (suc n) left ∷ bundled (drop end objects)) (sym (drop_here objects from o here))
    ∙ ap (λ (k : ℕ). take k (drop from objects) ∷ bundled (drop end objects)) size

run_next : (objects : List Object) (place : ℕ) (last next : Object) → slice_get objects place ≡ Some next
    → run_after last (drop place objects) ≡ (if go_together last next then suc (run_after next (drop (place + 1) objects)) else 0)
unfolding run_after
run_next objects place last next here = ap (run_after last) (drop_here objects place next here)

-- the next object goes with the last one, or doesn't
run_goes : (objects : List Object) (place : ℕ) (last next : Object) → slice_get objects place ≡ Some next → go_together last next ≡ true
    → run_after last (drop place objects) ≡ suc (run_after next (drop (place + 1) objects))
run_goes objects place last next here goes =
    run_next objects place last next here ∙ ap (λ (b : Bool). if b then suc (run_after next (drop (place + 1) objects)) else 0) goes

pub run_ends : (objects : List Object) (place : ℕ) (last next : Object) → slice_get objects place ≡ Some next → go_together last next ≡ false
    → run_after last (drop place objects) ≡ 0
run_ends objects place last next here goes =
    run_next objects place last next here ∙ ap (λ (b : Bool). if b then suc (run_after next (drop (place + 1) objects)) else 0) goes

one_item : (objects : List Object) (k j : ℕ) (x y : Object) → k ≡ j → slice_get objects k ≡ Some x → slice_get objects j ≡ Some y → x ≡ y
one_item objects k j x y at here there =
    let both : Some x ≡ Some y = sym here ∙ ap (λ (n : ℕ). slice_get objects n) at ∙ there in
    cc

-- one object more goes with those before it
pub run_more : (objects : List Object) (from place : ℕ) (first last next after : Object) → slice_get objects place ≡ Some next
    → go_together last next ≡ true → run_after first (drop (from + 1) objects) + (from + 1) ≡ place + run_after last (drop place objects)
    → slice_get objects ((place + 1) - 1) ≡ Some after
    → run_after first (drop (from + 1) objects) + (from + 1) ≡ (place + 1) + run_after after (drop (place + 1) objects)
run_more objects from place first last next after here goes so_far there =
    let same : next ≡ after = one_item objects place ((place + 1) - 1) next after (omega arith) here there in
    let more = run_goes objects place last next here goes in
    let now : run_after first (drop (from + 1) objects) + (from + 1) ≡ (place + 1) + run_after next (drop (place + 1) objects) =
    so_far ∙ ap (λ (n : ℕ). place + n) more ∙ omega arith in
    now ∙ ap (λ (o : Object). (place + 1) + run_after o (drop (place + 1) objects)) same

pub run_last : (objects : List Object) (place : ℕ) (last : Object) → length objects ≤ place → run_after last (drop place objects) ≡ 0
unfolding run_after
run_last objects place last past = ap (run_after last) (drop_all place objects past)

-- the list is one bundle where its first one ends with it
pub one_at_end : (objects b : List Object) (end : ℕ) → length objects ≤ end → bundled objects ≡ b ∷ bundled (drop end objects)
    → true ≡ (length (bundled objects) == 1)
unfolding bundled
one_at_end objects b end past first =
    sym (ap (λ (bundles : List (List Object)). length bundles == 1) (first ∙ ap (λ (left : List Object). b ∷ bundled left) (drop_all end objects past)))

two_no : (n : ℕ) → false ≡ (suc (suc n) == 1)
two_no n = grind arith

pub more_than_one : (objects b : List Object) (end : ℕ) (o : Object) → slice_get objects end ≡ Some o → bundled objects ≡ b ∷ bundled (drop end objects)
    → false ≡ (length (bundled objects) == 1)
more_than_one objects b end o here first =
    let rest = drop (end + 1) objects in
    let n = run_after o rest in
    two_no (length (bundled (drop n rest)))
    ∙ sym (ap (λ (bundles : List (List Object)). length bundles == 1)
    (first ∙ ap (λ (left : List Object). b ∷ bundled left) (drop_here objects end o here)
    ∙ ap (λ (bundles : List (List Object)). b ∷ bundles) (bundled_run o rest)))

none_at_all : false ≡ (length (bundled []) == 1)
unfolding bundled
none_at_all = refl

-- whether it is, by where its first bundle ends
pub one_bundle : (objects b : List Object) (end n : ℕ) → n ≡ length objects → end ≤ length objects → bundled objects ≡ b ∷ bundled (drop end objects)
    → (end == n) ≡ (length (bundled objects) == 1)
one_bundle objects b end n count within first = elim (eqb_tells end n) [
  | inl met ↦ let same : end ≡ n = met.1 in let past : length objects ≤ end = omega arith in met.0 ∙ one_at_end objects b end past first
  | inr other ↦
      let differs : end ≢ n = other.1 in
      let before : end < length objects = omega arith in
      let (o, here) = item_at objects end before in
      other.0 ∙ more_than_one objects b end o here first
]

pub no_bundle : (objects : List Object) (n : ℕ) → n ≡ length objects → n ≡ 0 → not (n == 0) ≡ (length (bundled objects) == 1)
no_bundle objects n count none =
    let empty : objects ≡ [] = nil_from_length objects (sym count ∙ none) in
    ap (λ (k : ℕ). not (k == 0)) none ∙ none_at_all ∙ ap (λ (xs : List Object). length (bundled xs) == 1) (sym empty)
