-- Texts that are joined one after another.
use Rattle.std.proofs.Common.{◌≡◌, ◌∙◌, ℕ, suc, ◌+◌, ◌-◌, ◌<◌, ◌≤◌, Bool, true, false, ◌==◌, List, [], ◌∷◌, ◌++◌, length, take, drop, map, refl, ap, sym, arith, append_assoc}
use Rattle.std.specs.Prelude.{Some, slice_get, codes, if◌then◌else◌}
use Rattle.std.specs.List.{flat_map}
use Rattle.std.proofs.lemmas.List.{length-take, length-map, append-nil, drop_all}
use Rattle.std.proofs.lemmas.Bool.Decides.{nat_tests}
use Rattle.std.proofs.lemmas.Option.{slice_get_within}
use Rattle.list_laws.proofs.Joining.{take_next, map_next, pushed}
use Rattle.script_types.specs.declared.objects.Object.{Object}
use Rattle.script_notices.proofs.Rests.{drop_here}
use Rattle.mend_lines.specs.Lines.{joined_by, between_text, next_text, bundled, bundle_by, bundle_text, bundles_text, several_text}

none_zero : (n : ℕ) → (suc n == 0) ≡ false
none_zero n = grind arith

-- one text more
pub joined_push : (between : List ℕ) (ys : List (List ℕ)) (y : List ℕ)
    → joined_by between (ys ++ y ∷ []) ≡ joined_by between ys ++ next_text between (length ys == 0) y
unfolding joined_by
joined_push between [] y = refl
joined_push between (x ∷ []) y = refl
joined_push between (x ∷ z ∷ more) y =
    let after = joined_by between (z ∷ more) in
    let both : joined_by between (z ∷ more ++ y ∷ []) ≡ after ++ (between ++ y) =
    joined_push between (z ∷ more) y ∙ ap (λ (b : Bool). after ++ next_text between b y) (none_zero (length more)) in
    ap (λ (rest : List ℕ). x ++ (between ++ rest)) both
    ∙ ap (λ (rest : List ℕ). x ++ rest) (sym (append_assoc between after (between ++ y)))
    ∙ sym (append_assoc x (between ++ after) (between ++ y))
    ∙ ap (λ (b : Bool). (x ++ (between ++ after)) ++ next_text between b y) (sym (none_zero (suc (length more))))

-- the texts up to a place, and the one there
pub joined_more : (between : List ℕ) (xs : List (List ℕ)) (k : ℕ) (x : List ℕ) → slice_get xs k ≡ Some x
    → joined_by between (take (k + 1) xs) ≡ joined_by between (take k xs) ++ next_text between (k == 0) x
joined_more between xs k x here =
    let low : k < length xs = slice_get_within xs k x here in
    let long : length (take k xs) ≡ k = grind (arith, length-take) in
    ap (joined_by between) (take_next xs k x here) ∙ joined_push between (take k xs) x
    ∙ ap (λ (n : ℕ). joined_by between (take k xs) ++ next_text between (n == 0) x) long

-- the same of texts of things
pub joined_next : {A : Type 0} (between : List ℕ) (f : A → List ℕ) (xs : List A) (k : ℕ) (x : A) → slice_get xs k ≡ Some x
    → joined_by between (map f (take (k + 1) xs)) ≡ joined_by between (map f (take k xs)) ++ next_text between (k == 0) (f x)
joined_next {A} between f xs k x here =
    let low : k < length xs = slice_get_within xs k x here in
    let few : length (take k xs) ≡ k = grind (arith, length-take) in
    let long : length (map f (take k xs)) ≡ k = length-map (take k xs) f ∙ few in
    ap (joined_by between) (map_next f xs k x here) ∙ joined_push between (map f (take k xs)) (f x)
    ∙ ap (λ (n : ℕ). joined_by between (map f (take k xs)) ++ next_text between (n == 0) (f x)) long

-- a text that has those up to a place, and then the one there
pub joined_added : {A : Type 0} (between : List ℕ) (f : A → List ℕ) (xs : List A) (k : ℕ) (x : A) (old now new : List ℕ) → slice_get xs k ≡ Some x
    → now ≡ old ++ joined_by between (map f (take k xs)) → new ≡ now ++ next_text between (k == 0) (f x)
    → new ≡ old ++ joined_by between (map f (take (k + 1) xs))
joined_added between f xs k x old now new here before turn =
    pushed old now new (next_text between (k == 0) (f x)) (joined_by between (map f (take (k + 1) xs))) (joined_by between (map f (take k xs)))
    before turn (joined_next between f xs k x here)

-- no text
pub joined_none : (between old : List ℕ) → old ≡ old ++ joined_by between []
unfolding joined_by
joined_none between old = sym (append-nil old)

-- what is left of the texts of some bundles, of which the first may be the first of all
abbrev pub rest_text : Bool → List (List Object) → List ℕ
rest_text first bundles = if first then several_text bundles else flat_map (λ (b : List Object). codes " " ++ bundle_text b) bundles

pub several_first : (b : List Object) (bundles : List (List Object))
    → several_text (b ∷ bundles) ≡ bundle_text b ++ flat_map (λ (o : List Object). codes " " ++ bundle_text o) bundles
unfolding joined_by
several_first b [] = sym (append-nil (bundle_text b))
several_first b (next ∷ more) =
    ap (λ (rest : List ℕ). bundle_text b ++ rest)
    (ap (λ (rest : List ℕ). codes " " ++ rest) (several_first next more)
    ∙ sym (append_assoc (codes " ") (bundle_text next) (flat_map (λ (o : List Object). codes " " ++ bundle_text o) more)))

pub rest_next : (first : Bool) (b : List Object) (bundles : List (List Object))
    → rest_text first (b ∷ bundles) ≡ between_text (codes " ") first ++ (bundle_text b ++ rest_text false bundles)
rest_next true b bundles = several_first b bundles
rest_next false b bundles =
    append_assoc (codes " ") (bundle_text b) (flat_map (λ (o : List Object). codes " " ++ bundle_text o) bundles)

pub rest_none : (first : Bool) → rest_text first [] ≡ []
unfolding joined_by
rest_none true = refl
rest_none false = refl

bundle_first : (objects : List Object) (from end : ℕ) (o : Object) → slice_get objects from ≡ Some o → from < end
    → bundle_text (take (end - from) (drop from objects)) ≡ bundle_by o (take (end - from) (drop from objects))
bundle_first objects from end o here before =
    let n = end - (from + 1) in
    let size : end - from ≡ suc n = omega arith in
    let same : take (end - from) (drop from objects) ≡ o ∷ take n (drop (from + 1) objects) =
    ap (λ (k : ℕ). take k (drop from objects)) size ∙ ap (take (suc n)) (drop_here objects from o here) in
    ap bundle_text same ∙ ap (bundle_by o) (sym same)

after_none : (from end : ℕ) → from < end → (end == 0) ≡ false
after_none from end before = grind (arith, nat_tests)

-- a bundle more is written
pub bundle_added : (objects : List Object) (from end : ℕ) (o : Object) (all before between new : List ℕ) → slice_get objects from ≡ Some o → from < end
    → bundled (drop from objects) ≡ take (end - from) (drop from objects) ∷ bundled (drop end objects)
    → all ≡ before ++ rest_text (from == 0) (bundled (drop from objects)) → between ≡ before ++ between_text (codes " ") (from == 0)
    → new ≡ between ++ bundle_by o (take (end - from) (drop from objects)) → all ≡ new ++ rest_text (end == 0) (bundled (drop end objects))
bundle_added objects from end o all before between new here less first so_far spaced turn =
    let bundle = take (end - from) (drop from objects) in
    let space = between_text (codes " ") (from == 0) in
    let rest = bundled (drop end objects) in
    let left = rest_text false rest in
    let text = bundle_by o bundle in
    so_far ∙ ap (λ (bundles : List (List Object)). before ++ rest_text (from == 0) bundles) first
    ∙ ap (λ (s : List ℕ). before ++ s) (rest_next (from == 0) bundle rest)
    ∙ ap (λ (s : List ℕ). before ++ (space ++ (s ++ left))) (bundle_first objects from end o here less)
    ∙ sym (append_assoc before space (text ++ left)) ∙ sym (append_assoc (before ++ space) text left)
    ∙ ap (λ (s : List ℕ). (s ++ text) ++ left) (sym spaced) ∙ ap (λ (s : List ℕ). s ++ left) (sym turn)
    ∙ ap (λ (b : Bool). new ++ rest_text b rest) (sym (after_none from end less))

-- all bundles are written
pub bundles_done : (objects : List Object) (from : ℕ) (all text : List ℕ) → length objects ≤ from
    → all ≡ text ++ rest_text (from == 0) (bundled (drop from objects)) → text ≡ all
unfolding bundled
bundles_done objects from all text past so_far =
    sym (so_far ∙ ap (λ (left : List Object). text ++ rest_text (from == 0) (bundled left)) (drop_all from objects past)
    ∙ ap (λ (s : List ℕ). text ++ s) (rest_none (from == 0)) ∙ append-nil text)

-- a list of one bundle
pub list_one : (bundles : List (List Object)) → (length bundles == 1) ≡ true → several_text bundles ≡ bundles_text bundles
unfolding joined_by
list_one [] one = absurd cc
list_one (b ∷ []) one = refl
list_one (b ∷ next ∷ more) one = let other : (suc (suc (length more)) == 1) ≡ false = grind arith in absurd cc
