-- Lists of names, one name on.
use Rattle.std.proofs.Common.{◌≡◌, ℕ, ◌≤◌, Bool, true, false, not, ◌&&◌, ◌||◌, List, [], ◌∷◌, ◌++◌, length, Some, slice_get, unwrap_or, position}
use Rattle.std.proofs.Common.{refl, sym, ap, ◌∙◌, add_comm, add-one, append-nil, append_assoc, subst, inl, inr, arith}
use Rattle.std.proofs.lemmas.Bool.{lt-ltb, le-ltb, cases_lt, and_parts, or_parts, or_right, not-true}
use Rattle.std.proofs.lemmas.Bool.Decides.{same_from_decides}
use Rattle.std.proofs.lemmas.List.Folds.{list_any-append, list_all-append}
use Rattle.std.proofs.lemmas.List.Sums.{fold-append, prefix_len-le-length}
use Rattle.std.proofs.lemmas.Slice.Eq.{bytes_eq-Decides}
use Rattle.std.specs.List.{list_all, position_or_len, IsDistinct, AllByRecursion}
use Rattle.std.specs.Str.{bytes_eq}
use Rattle.texts.specs.Names.{is_among, place_of, are_distinct, are_new, with_name, with_names, each_once}

-- a look-up's place, or the length
pub unwrap_or-position : {A : Type 0} (p : A → Bool) (xs : List A) → unwrap_or (position p xs) (length xs) ≡ position_or_len p xs
unwrap_or-position p xs =
    let within : position_or_len p xs ≤ length xs = prefix_len-le-length (λ x. not (p x)) xs in
    elim (cases_lt (position_or_len p xs) (length xs)) [
      | inl lt ↦ rw (lt-ltb _ _ lt) refl
      | inr le ↦ rw (le-ltb _ _ le) (omega arith)
    ]

-- two texts are equal whichever is named first
pub bytes_eq-comm : (x y : List ℕ) → bytes_eq x y ≡ bytes_eq y x
bytes_eq-comm x y = let (f, g) = bytes_eq-Decides y x in same_from_decides _ _ (bytes_eq-Decides x y) (λ e. sym (f e), λ e. g (sym e))

-- a name among names and one more
or_last : (a b : Bool) → (a || (b || false)) ≡ (a || b)
or_last true b = refl
or_last false true = refl
or_last false false = refl

pub is_among-push : (n : List ℕ) (xs : List (List ℕ)) (y : List ℕ) → is_among n (xs ++ y ∷ []) ≡ (is_among n xs || bytes_eq n y)
is_among-push n xs y = list_any-append (bytes_eq n) xs (y ∷ []) ∙ or_last (is_among n xs) (bytes_eq n y)

or_none : (a : Bool) → a ≡ (a || false)
or_none true = refl
or_none false = refl

among_cases : (n m : List ℕ) (xs : List (List ℕ)) → is_among m xs ≡ true → (b : Bool) → bytes_eq n m ≡ b → is_among n xs ≡ (is_among n xs || b)
among_cases n m xs here true e = let (f, g) = bytes_eq-Decides n m in rw (f e, here) refl
among_cases n m xs here false e = or_none (is_among n xs)

-- what is equal to a name that is among these is among them
among_equal : (n m : List ℕ) (xs : List (List ℕ)) → is_among m xs ≡ true → is_among n xs ≡ (is_among n xs || bytes_eq n m)
among_equal n m xs here = among_cases n m xs here (bytes_eq n m) refl

with_name_cases : (n : List ℕ) (xs : List (List ℕ)) (y : List ℕ) (b : Bool) → is_among y xs ≡ b → is_among n (with_name xs y) ≡ (is_among n xs || bytes_eq n y)
with_name_cases n xs y true e = rw e (among_equal n y xs e)
with_name_cases n xs y false e = rw e (is_among-push n xs y)

pub is_among-with_name : (n : List ℕ) (xs : List (List ℕ)) (y : List ℕ) → is_among n (with_name xs y) ≡ (is_among n xs || bytes_eq n y)
is_among-with_name n xs y = with_name_cases n xs y (is_among y xs) refl

or_assoc : (a b c : Bool) → ((a || b) || c) ≡ (a || (b || c))
or_assoc true b c = refl
or_assoc false b c = refl

-- a name among those of a table and the added ones
pub is_among-with_names : (n : List ℕ) (xs ys : List (List ℕ)) → is_among n (with_names xs ys) ≡ (is_among n xs || is_among n ys)
is_among-with_names n xs [] = or_none (is_among n xs)
is_among-with_names n xs (y ∷ ys) =
    is_among-with_names n (with_name xs y) ys ∙ ap (λ (b : Bool). b || is_among n ys) (is_among-with_name n xs y) ∙ or_assoc (is_among n xs)
    (bytes_eq n y) (is_among n ys)

regroup : (a b c d : Bool) → (not (a || b) && (c && not d)) ≡ ((not a && c) && not (b || d))
regroup true b c d = refl
regroup false true true d = refl
regroup false true false d = refl
regroup false false c d = refl

-- the test of names and one more
pub are_distinct-push : (xs : List (List ℕ)) (y : List ℕ) → are_distinct (xs ++ y ∷ []) ≡ (are_distinct xs && not (is_among y xs))
unfolding are_distinct
are_distinct-push [] y = refl
are_distinct-push (x ∷ xs) y =
    rw (is_among-push x xs y, are_distinct-push xs y, bytes_eq-comm x y) (regroup (is_among x xs) (bytes_eq y x) (are_distinct xs) (is_among y xs))

regroup_new : (a b c d : Bool) → ((a && not b) && (c && (not d && true))) ≡ ((a && c) && not (d || b))
regroup_new true true true true = refl
regroup_new true true true false = refl
regroup_new true true false d = refl
regroup_new true false true true = refl
regroup_new true false true false = refl
regroup_new true false false d = refl
regroup_new false b c d = refl

-- the test of one more new name
pub are_new-push : (names xs : List (List ℕ)) (y : List ℕ) → are_new names (xs ++ y ∷ []) ≡ (are_new names xs && not (is_among y (with_names names xs)))
are_new-push names xs y =
    rw (are_distinct-push xs y, list_all-append (λ n. not (is_among n names)) xs (y ∷ []), is_among-with_names y names xs)
    (regroup_new (are_distinct xs) (is_among y xs) (list_all (λ n. not (is_among n names)) xs) (is_among y names))

-- the names after one more
pub with_names-push : (names xs : List (List ℕ)) (y : List ℕ) → with_names names (xs ++ y ∷ []) ≡ with_name (with_names names xs) y
with_names-push names xs y = fold-append with_name names xs (y ∷ [])

one_more : (xs : List (List ℕ)) (y : List ℕ) (b : Bool) → is_among y xs ≡ b → are_distinct xs ≡ true → are_distinct (with_name xs y) ≡ true
one_more xs y true here e = rw here e
one_more xs y false here e = rw here (are_distinct-push xs y ∙ rw (e, here) refl)

-- a table's names stay distinct
pub are_distinct-with_names : (xs ys : List (List ℕ)) → are_distinct xs ≡ true → are_distinct (with_names xs ys) ≡ true
are_distinct-with_names xs [] e = e
are_distinct-with_names xs (y ∷ ys) e = are_distinct-with_names (with_name xs y) ys (one_more xs y (is_among y xs) refl e)

pub are_distinct-each_once : (xs : List (List ℕ)) → are_distinct (each_once xs) ≡ true
unfolding are_distinct
are_distinct-each_once xs = are_distinct-with_names [] xs refl

-- a name stands at its place
place_here : (n x : List ℕ) (xs : List (List ℕ)) (b : Bool) → bytes_eq n x ≡ b → (b ≡ false → slice_get xs (place_of n xs) ≡ Some n)
    → slice_get (x ∷ xs) (place_of n (x ∷ xs)) ≡ Some n
place_here n x xs true e further = let (f, g) = bytes_eq-Decides n x in rw e (ap (λ (y : List ℕ). Some y) (sym (f e)))
place_here n x xs false e further = rw (e, add_comm, add-one) (further refl)

pub slice_get-place_of : (n : List ℕ) (xs : List (List ℕ)) → is_among n xs ≡ true → slice_get xs (place_of n xs) ≡ Some n
slice_get-place_of n [] here = absurd cc
slice_get-place_of n (x ∷ xs) here = place_here n x xs (bytes_eq n x) refl (λ e. slice_get-place_of n xs (rw e at here))

-- the test of new names against names and one more
fresh_more : (names : List (List ℕ)) (y : List ℕ) (xs : List (List ℕ)) → list_all (λ n. not (is_among n (names ++ y ∷ []))) xs ≡
    (list_all (λ n. not (is_among n names)) xs && not (is_among y xs))
fresh_more names y [] = refl
fresh_more names y (x ∷ xs) =
    rw (is_among-push x names y, fresh_more names y xs, bytes_eq-comm x y)
    (regroup (is_among x names) (bytes_eq y x) (list_all (λ n. not (is_among n names)) xs) (is_among y xs))

regroup_cons : (a b c d : Bool) → ((not a && b) && (not c && d)) ≡ (not c && (b && (d && not a)))
regroup_cons true b true d = refl
regroup_cons true true false true = refl
regroup_cons true true false false = refl
regroup_cons true false false d = refl
regroup_cons false true true d = refl
regroup_cons false true false true = refl
regroup_cons false true false false = refl
regroup_cons false false true d = refl
regroup_cons false false false d = refl

-- the test of a first new name, and of the others after it
pub are_new-cons : (names : List (List ℕ)) (x : List ℕ) (xs : List (List ℕ)) → are_new names (x ∷ xs) ≡ (not (is_among x names) && are_new (names ++ x ∷ []) xs)
unfolding are_distinct
are_new-cons names x xs = rw (fresh_more names x xs) (regroup_cons (is_among x xs) (are_distinct xs) (is_among x names)
    (list_all (λ n. not (is_among n names)) xs))

and_assoc : (a b c : Bool) → ((a && b) && c) ≡ (a && (b && c))
and_assoc true b c = refl
and_assoc false b c = refl

pub are_new-append : (names xs ys : List (List ℕ)) → are_new names (xs ++ ys) ≡ (are_new names xs && are_new (names ++ xs) ys)
unfolding are_distinct
are_new-append names [] ys = rw (append-nil names) refl
are_new-append names (x ∷ xs) ys =
    are_new-cons names x (xs ++ ys) ∙ ap (λ (b : Bool). not (is_among x names) && b) (are_new-append (names ++ x ∷ []) xs ys)
    ∙ rw (are_new-cons names x xs, append_assoc names (x ∷ []) xs)
    (sym (and_assoc (not (is_among x names)) (are_new (names ++ x ∷ []) xs) (are_new (names ++ (x ∷ xs)) ys)))

list_all_true : {A : Type 0} (xs : List A) → list_all (λ (x : A). true) xs ≡ true
list_all_true [] = refl
list_all_true (x ∷ xs) = list_all_true xs

and_true : (a b : Bool) → b ≡ true → (a && b) ≡ a
and_true true b e = e
and_true false b e = refl

-- against no names, new is distinct
pub are_new_none : (xs : List (List ℕ)) → are_new [] xs ≡ are_distinct xs
are_new_none xs = and_true (are_distinct xs) _ (list_all_true xs)

-- names that are all new come after those of the table
pub with_names_new : (names xs : List (List ℕ)) → are_new names xs ≡ true → with_names names xs ≡ names ++ xs
with_names_new names [] e = sym (append-nil names)
with_names_new names (x ∷ xs) e =
    let (new, rest) = and_parts (not (is_among x names)) (are_new (names ++ x ∷ []) xs) (sym (are_new-cons names x xs) ∙ e) in
    let absent = not-true (is_among x names) new in
    rw absent (with_names_new (names ++ x ∷ []) xs rest ∙ append_assoc names (x ∷ []) xs)

-- the front of distinct names is distinct
pub are_distinct_front : (xs ys : List (List ℕ)) → are_distinct (xs ++ ys) ≡ true → are_distinct xs ≡ true
unfolding are_distinct
are_distinct_front [] ys e = refl
are_distinct_front (x ∷ xs) ys e =
    let (new, rest) = and_parts (not (is_among x (xs ++ ys))) (are_distinct (xs ++ ys)) e in
    let (here, there) = or_parts (is_among x xs) (is_among x ys) (sym (list_any-append (bytes_eq x) xs ys) ∙ not-true (is_among x (xs ++ ys)) new) in
    rw (here, are_distinct_front xs ys rest) refl

among_middle : (front : List (List ℕ)) (x : List ℕ) (back : List (List ℕ)) → is_among x (front ++ (x ∷ back)) ≡ true
among_middle front x back = let (f, g) = bytes_eq-Decides x x in rw (list_any-append (bytes_eq x) front (x ∷ back), g refl)
    (or_right (is_among x front) true refl)

-- each name of a part is a name of the whole
pub all_among : (front xs back : List (List ℕ)) → list_all (λ n. is_among n (front ++ (xs ++ back))) xs ≡ true
all_among front [] back = refl
all_among front (x ∷ xs) back =
    rw (among_middle front x (xs ++ back)) (subst (λ (names : List (List ℕ)). list_all (λ n. is_among n names) xs ≡ true)
    (append_assoc front (x ∷ []) (xs ++ back)) (all_among (front ++ x ∷ []) xs back))

same_test : (names : List (List ℕ)) (xs : List (List ℕ)) → list_all (λ n. is_among n (each_once names)) xs ≡ list_all (λ n. is_among n names) xs
same_test names [] = refl
same_test names (x ∷ xs) = rw (is_among-with_names x [] names, same_test names xs) refl

-- each of the names is among them, each taken once
pub all_among-each_once : (front xs back : List (List ℕ)) → list_all (λ n. is_among n (each_once (front ++ (xs ++ back)))) xs ≡ true
all_among-each_once front xs back = same_test (front ++ (xs ++ back)) xs ∙ all_among front xs back

all_differ : (x : List ℕ) (xs : List (List ℕ)) → is_among x xs ≡ false → AllByRecursion (λ y. bytes_eq x y ≡ false) xs
all_differ x [] e = tt
all_differ x (y ∷ ys) e = let (here, there) = or_parts (bytes_eq x y) (is_among x ys) e in (here, all_differ x ys there)

-- names that differ by the test
pub distinct_by_test : (xs : List (List ℕ)) → are_distinct xs ≡ true → IsDistinct bytes_eq xs
unfolding are_distinct IsDistinct
distinct_by_test [] e = tt
distinct_by_test (x ∷ xs) e =
    let (new, rest) = and_parts (not (is_among x xs)) (are_distinct xs) e in
    (all_differ x xs (not-true (is_among x xs) new), distinct_by_test xs rest)
