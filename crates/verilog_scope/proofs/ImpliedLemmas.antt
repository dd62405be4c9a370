-- The wires without a declaration.
use Rattle.std.proofs.Common.{arith, ◌≡◌, ℕ, ◌<◌, Bool, true, false, not, ◌||◌, List, [], ◌∷◌, length, filter, get_or, if◌then◌else◌, refl, sym, ◌∙◌, subst}
use Rattle.std.specs.List.{list_all}
use Rattle.std.specs.Str.{bytes_eq}
use Rattle.std.proofs.lemmas.Bool.{and_parts, or_parts, not-true, false≢true}
use Rattle.std.proofs.lemmas.List.Folds.{list_all_at}
use Rattle.std.proofs.lemmas.Slice.Eq.{bytes_eq-Decides}
use Rattle.std.proofs.lemmas.Option.{slice_get_within}
use Rattle.texts.specs.Names.{is_among, place_of, with_names, each_once, are_distinct}
use Rattle.texts.proofs.NameLemmas.{slice_get-place_of, are_distinct-each_once, with_names_new, are_new_none}
use Rattle.verilog_syntax.specs.declared.declarations.ModuleDecl.{ModuleDecl}
use Rattle.verilog_scope.specs.declared.decls.Decl.{Decl}
use Rattle.verilog_scope.specs.Standing.{standing, implied}
use Rattle.verilog_scope.specs.Decls.{blank, is_declared}
use Rattle.verilog_scope.specs.Scopes.{is_undeclared, implied_wires}
use Rattle.verilog_scope.proofs.StandLemmas.{standing_implied}

later : (a b : Bool) → b ≡ true → (a || b) ≡ true
later true b e = refl
later false b e = e

or_more : (a b c : Bool) → (b ≡ true → c ≡ true) → (a || b) ≡ true → (a || c) ≡ true
or_more true b c more e = refl
or_more false b c more e = more e

declared_case : (decls : List Decl) (place : ℕ) → place < length decls → (b : Bool) → is_declared (get_or decls place blank) ≡ b
    → list_all is_declared decls ≡ true → not (is_declared (get_or decls place blank)) ≡ false
declared_case decls place within true e all = rw e refl
declared_case decls place within false e all = absurd (false≢true (sym (list_all_at is_declared decls place blank within e) ∙ all))

kept_among : (x y : List ℕ) (ys : List (List ℕ)) (b : Bool) → bytes_eq x y ≡ false → is_among x ys ≡ false → is_among x (if b then y ∷ ys else ys) ≡ false
kept_among x y ys true here there = rw here there
kept_among x y ys false here there = there

kept_distinct : (x : List ℕ) (xs : List (List ℕ)) (b : Bool) → is_among x xs ≡ false → are_distinct xs ≡ true
    → are_distinct (if b then x ∷ xs else xs) ≡ true
unfolding are_distinct
kept_distinct x xs true new differ = rw new differ
kept_distinct x xs false new differ = differ

same_name : (n : List ℕ) → bytes_eq n n ≡ true
same_name n = let (f, g) = bytes_eq-Decides n n in g refl

-- no item passes where each of the names is one that does not
no_undeclared : (p : List ℕ → Bool) (xs : List (List ℕ)) → ((n : List ℕ) → is_among n xs ≡ true → p n ≡ false) → filter p xs ≡ []
no_undeclared p [] none = refl
no_undeclared p (x ∷ xs) none =
    let here : p x ≡ false = none x (rw (same_name x) refl) in
    let rest = no_undeclared p xs (λ n e. none n (later (bytes_eq n x) (is_among n xs) e)) in
    rw here rest

-- a name of the module is declared where all are
name_declared : (names : List (List ℕ)) (decls : List Decl) (n : List ℕ) → length decls ≡ length names → list_all is_declared decls ≡ true
    → is_among n names ≡ true → is_undeclared names decls n ≡ false
name_declared names decls n counted all among =
    let place = place_of n names in
    let within : place < length decls = let w = slice_get_within names place n (slice_get-place_of n names among) in omega (arith, counted) in
    declared_case decls place within (is_declared (get_or decls place blank)) refl all

-- where all names of a module are declared there are no wires without a declaration
pub none_implied : (names : List (List ℕ)) (decls : List Decl) (m : ModuleDecl) → names ≡ standing m → length decls ≡ length names
    → list_all is_declared decls ≡ true → implied_wires names decls m ≡ []
none_implied names decls m named counted all =
    no_undeclared (is_undeclared names decls) (each_once (implied m)) (λ n e.
    name_declared names decls n counted all (subst (λ (ns : List (List ℕ)). is_among n ns ≡ true) (sym named) (standing_implied n m e)))

fewer_among : (x : List ℕ) (p : List ℕ → Bool) (xs : List (List ℕ)) → is_among x xs ≡ false → is_among x (filter p xs) ≡ false
fewer_among x p [] e = refl
fewer_among x p (y ∷ ys) e =
    let (here, there) = or_parts (bytes_eq x y) (is_among x ys) e in
    kept_among x y (filter p ys) (p y) here (fewer_among x p ys there)

among_case : (n x : List ℕ) (xs ys : List (List ℕ)) (b : Bool) → (is_among n ys ≡ true → is_among n xs ≡ true)
    → is_among n (if b then x ∷ ys else ys) ≡ true → (bytes_eq n x || is_among n xs) ≡ true
among_case n x xs ys true rest e = or_more (bytes_eq n x) (is_among n ys) (is_among n xs) rest e
among_case n x xs ys false rest e = later (bytes_eq n x) (is_among n xs) (rest e)

-- a name that was not left out is among the names
pub among_fewer : (n : List ℕ) (p : List ℕ → Bool) (xs : List (List ℕ)) → is_among n (filter p xs) ≡ true → is_among n xs ≡ true
among_fewer n p [] e = e
among_fewer n p (x ∷ xs) e = among_case n x xs (filter p xs) (p x) (among_fewer n p xs) e

-- names that differ still do where some are left out
fewer_distinct : (p : List ℕ → Bool) (xs : List (List ℕ)) → are_distinct xs ≡ true → are_distinct (filter p xs) ≡ true
unfolding are_distinct
fewer_distinct p [] e = refl
fewer_distinct p (x ∷ xs) e =
    let (new, rest) = and_parts (not (is_among x xs)) (are_distinct xs) e in
    kept_distinct x (filter p xs) (p x) (fewer_among x p xs (not-true (is_among x xs) new)) (fewer_distinct p xs rest)

-- those of a table's names are a table's names
pub each_once_filter : (p : List ℕ → Bool) (xs : List (List ℕ)) → with_names [] (filter p (each_once xs)) ≡ filter p (each_once xs)
each_once_filter p xs =
    let ys = filter p (each_once xs) in
    with_names_new [] ys (are_new_none ys ∙ fewer_distinct p (each_once xs) (are_distinct-each_once xs))
