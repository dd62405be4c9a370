-- Places of names, and the places that a resolved expression reads.
use Rattle.std.proofs.Common.{◌≡◌, ℕ, ◌+◌, ◌<◌, Bool, true, false, List, [], ◌∷◌, length, Option, Some, None, IfSome, Result, Ok, Err, IfOk, refl}
use Rattle.std.proofs.Common.{sym, subst, arith}
use Rattle.std.specs.Str.{bytes_eq}
use Rattle.texts.specs.Names.{is_among, place_of}
use Rattle.net_model.specs.Form.{IsOver}
use Rattle.cell_lib.specs.declared.scopes.States.{States}
use Rattle.cell_lib.specs.Scopes.{meaning, state_meaning, reach}

placed_past : (n x : List ℕ) (xs : List (List ℕ)) (b : Bool) → bytes_eq n x ≡ b → is_among n (x ∷ xs) ≡ false
    → (is_among n xs ≡ false → place_of n xs ≡ length xs) → place_of n (x ∷ xs) ≡ length (x ∷ xs)
placed_past n x xs true e absent further = let contra : true ≡ false = rw e at absent in absurd cc
placed_past n x xs false e absent further = let rest = further (rw e at absent) in rw e (omega (arith, rest))

-- the place of a name that is not there is the number of the names
pub place_of-absent : (n : List ℕ) (xs : List (List ℕ)) → is_among n xs ≡ false → place_of n xs ≡ length xs
place_of-absent n [] absent = refl
place_of-absent n (x ∷ xs) absent = placed_past n x xs (bytes_eq n x) refl absent (λ e. place_of-absent n xs e)

placed_here : (n x : List ℕ) (xs : List (List ℕ)) (b : Bool) → bytes_eq n x ≡ b → is_among n (x ∷ xs) ≡ true
    → (is_among n xs ≡ true → place_of n xs < length xs) → place_of n (x ∷ xs) < length (x ∷ xs)
placed_here n x xs true e there further = rw e (omega arith)
placed_here n x xs false e there further = let rest = further (rw e at there) in rw e (omega (arith, rest))

-- the place of a name that is there is one of the names'
pub place_of-among : (n : List ℕ) (xs : List (List ℕ)) → is_among n xs ≡ true → place_of n xs < length xs
place_of-among n [] there = absurd cc
place_of-among n (x ∷ xs) there = placed_here n x xs (bytes_eq n x) refl there (λ e. place_of-among n xs e)

-- an input's place is in reach, with or without a state
pub place_in_reach : (inputs : List (List ℕ)) (names : Option States) (n : List ℕ) → is_among n inputs ≡ true → place_of n inputs < reach inputs names
place_in_reach inputs None n there = place_of-among n inputs there
place_in_reach inputs (Some names) n there = let lt = place_of-among n inputs there in omega arith

-- what a name that is no input stands for
pub meaning_of_state : (inputs : List (List ℕ)) (names : Option States) (states : States) (n : List ℕ) (own : ℕ) → names ≡ Some states
    → is_among n inputs ≡ false → own ≡ place_of n inputs
    → state_meaning own (Some states) n ≡ meaning inputs names n
meaning_of_state inputs names states n own given absent here = rw (given, absent, here, place_of-absent n inputs absent) refl

state_over : (own : ℕ) (states : States) (n : List ℕ) (is_state is_complement : Bool) → bytes_eq n states.state ≡ is_state
    → bytes_eq n states.complement ≡ is_complement
    → IfSome (state_meaning own (Some states) n) (IsOver (own + 1))
state_over own states n true b e f = rw e (omega arith)
state_over own states n false true e f = rw (e, f) (omega arith)
state_over own states n false false e f = rw (e, f) tt

-- what a name that is no input stands for is in reach
pub state_in_reach : (inputs : List (List ℕ)) (names : Option States) (states : States) (n : List ℕ) → names ≡ Some states → is_among n inputs ≡ false
    → IfSome (meaning inputs names n) (IsOver (reach inputs names))
state_in_reach inputs names states n given absent = rw (given, absent)
    (state_over (length inputs) states n (bytes_eq n states.state) (bytes_eq n states.complement) refl refl)

-- what holds of the value that an answer has holds of the answer
pub ok_holds : {A E : Type 0} (P : A → Type 0) (r : Result A E) (a : A) → IfOk r (λ x. x ≡ a) → P a → IfOk r P
ok_holds P (Ok x) a e h = subst P (sym e) h
ok_holds P (Err x) a e h = tt
