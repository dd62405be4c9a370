-- Counts and lines of what one command adds.
use Rattle.std.proofs.Common.{arith, ◌≡◌, ◌∙◌, ◌≢◌, ℕ, suc, ◌+◌, Bool, true, false, cond, List, [], ◌∷◌, ◌++◌, length, map, refl, sym, ap, subst, length-append}
use Rattle.std.specs.Prelude.{if◌then◌else◌, Some, None, slice_get, count_by, ◌==◌}
use Rattle.std.proofs.lemmas.Bool.Decides.{nat_tests}
use Rattle.std.proofs.lemmas.List.Sums.{sum_by-append}
use Rattle.linked_types.specs.declared.names.Linked.{Linked}
use Rattle.script_types.specs.declared.scripts.Held.{Held}
use Rattle.script_types.specs.declared.scripts.What.{What}
use Rattle.script_types.specs.declared.scripts.What.TheVariants.{Clock, Case, Claiming, Hold, Aside, Passed, Unjudged, Scope, Generated, Delay}
use Rattle.script_types.specs.declared.scripts.Command.{Command}
use Rattle.script_types.specs.declared.scripts.Script.{Script}
use Rattle.sdcv_base.specs.Seqs.{each_at}
use Rattle.run_options.specs.declared.judging.Judging.{Judging}
use Rattle.exception_expand.specs.declared.sides.Side.{Side}
use Rattle.exception_expand.specs.declared.sides.Sides.TheVariants.{Early}
use Rattle.exception_expand.specs.Asking.{Asked, held, is_hold_side}
use Rattle.exception_expand.specs.Selections.{Chosen, chosen_by, count_at, is_exception, lines_asked, lines_by, lines_at}

count_cons : {A : Type 0} (p : A → Bool) (x : A) (xs : List A) → count_by p (x ∷ xs) ≡ cond (p x) 1 0 + count_by p xs
count_cons p x xs =
    let none : 0 + cond (p x) 1 0 ≡ cond (p x) 1 0 = omega arith in
    sum_by-append (λ y. cond (p y) 1 0) (x ∷ []) xs ∙ ap (λ (n : ℕ). n + count_by p xs) none

pub count_append : {A : Type 0} (p : A → Bool) (xs ys : List A) → count_by p (xs ++ ys) ≡ count_by p xs + count_by p ys
count_append p xs ys = sum_by-append (λ y. cond (p y) 1 0) xs ys

-- all that a command adds is its own
pub count_own : (k : ℕ) (ps : List Side) → count_at (map (chosen_by k) ps) k ≡ length ps
count_own k [] = refl
count_own k (p ∷ ps) =
    let yes : (k == k) ≡ true = grind (arith, nat_tests) in
    count_cons (λ (x : Chosen). x.command == k) (chosen_by k p) (map (chosen_by k) ps)
    ∙ ap (λ (b : Bool). cond b 1 0 + count_at (map (chosen_by k) ps) k) yes ∙ omega (arith, count_own k ps)

pub count_other : (k place : ℕ) (ps : List Side) → k ≢ place → count_at (map (chosen_by k) ps) place ≡ 0
count_other k place [] other = refl
count_other k place (p ∷ ps) other =
    let no : (k == place) ≡ false = grind (arith, nat_tests) in
    count_cons (λ (x : Chosen). x.command == place) (chosen_by k p) (map (chosen_by k) ps)
    ∙ ap (λ (b : Bool). cond b 1 0 + count_at (map (chosen_by k) ps) place) no ∙ omega (arith, count_other k place ps other)

-- what is made of items is the same where it is the same of each
pub each_at_same : {A B : Type 0} (f g : ℕ → A → List B) (i : ℕ) (xs : List A) → ((j : ℕ) (x : A) → slice_get xs j ≡ Some x → f (i + j) x ≡ g (i + j) x)
    → each_at f i xs ≡ each_at g i xs
each_at_same f g i [] same = refl
each_at_same {A} {B} f g i (x ∷ xs) same =
    let at : i + 0 ≡ i = omega arith in
    let first : f i x ≡ g i x = subst (λ (n : ℕ). f n x ≡ g n x) at (same 0 x refl) in
    let rest : each_at f (i + 1) xs ≡ each_at g (i + 1) xs = each_at_same f g (i + 1) xs (λ j y here. let on : i + suc j ≡ (i + 1) + j = omega arith in
    subst (λ (n : ℕ). f n y ≡ g n y) on (same (suc j) y here)) in
    ap (λ (l : List B). l ++ each_at f (i + 1) xs) first ∙ ap (λ (l : List B). g i x ++ l) rest

-- a command has one line where it is an exception, and else none
hold_line : (l : Linked) (script : Script) (strict : Bool) (count line : ℕ) (h : Held) (by : Asked) (b : Bool)
    → length (lines_asked l script strict count line (Hold h) (if b then Some by else None)) ≡ 1
hold_line l script strict count line h by true = refl
hold_line l script strict count line h by false = refl

line_count : (l : Linked) (script : Script) (judging : Judging) (count line : ℕ) (what : What)
    → length (lines_by l script judging count line what) ≡ cond (is_exception what) 1 0
line_count l script judging count line (Clock name source) = refl
line_count l script judging count line (Case value objects) = refl
line_count l script judging count line (Claiming e) = refl
line_count l script judging count line (Hold h) =
    hold_line l script judging.strict count line h (record { exception = held h; sides = Early }) (is_hold_side judging.hold h.number)
line_count l script judging count line (Aside option) = refl
line_count l script judging count line Passed = refl
line_count l script judging count line (Unjudged name) = refl
line_count l script judging count line (Scope name) = refl
line_count l script judging count line (Generated name objects) = refl
line_count l script judging count line (Delay output clocks objects) = refl

pub lines_count : (l : Linked) (script : Script) (judging : Judging) (chosen : List Chosen) (i : ℕ) (cs : List Command)
    → length (each_at (lines_at l script judging chosen) i cs) ≡ count_by (λ (c : Command). is_exception c.what) cs
lines_count l script judging chosen i [] = refl
lines_count l script judging chosen i (c ∷ cs) =
    let rest = lines_count l script judging chosen (i + 1) cs in
    let one = line_count l script judging (count_at chosen i) c.line c.what in
    length-append (lines_at l script judging chosen i c) (each_at (lines_at l script judging chosen) (i + 1) cs)
    ∙ ap (λ (n : ℕ). n + length (each_at (lines_at l script judging chosen) (i + 1) cs)) one
    ∙ ap (λ (n : ℕ). cond (is_exception c.what) 1 0 + n) rest
    ∙ sym (count_cons (λ (d : Command). is_exception d.what) c cs)

pub map_map : {A B C : Type 0} (f : B → C) (g : A → B) (xs : List A) → map f (map g xs) ≡ map (λ x. f (g x)) xs
map_map f g [] = refl
map_map f g (x ∷ xs) = ap (λ l. f (g x) ∷ l) (map_map f g xs)
