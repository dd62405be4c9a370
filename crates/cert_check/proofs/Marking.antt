-- Marks of listed numbers, and the numbers of marks.
use Rattle.std.proofs.Common.{◌≡◌, ◌≢◌, ℕ, zero, suc, ◌+◌, ◌<◌, ◌≤◌, Bool, true, false, Some, List, [], ◌∷◌, ◌++◌}
use Rattle.std.proofs.Common.{length, set, replicate, refl, sym, ap, subst, ◌∙◌, inl, inr, arith}
use Rattle.std.specs.Prelude.{◌⊎◌, Contains, slice_get}
use Rattle.std.proofs.lemmas.Bool.{cases_lt}
use Rattle.std.proofs.lemmas.List.{length-replicate, length-set, get_or-set_same, get_or-set_other}
use Rattle.std.proofs.lemmas.List.Elements.{Contains-push, Contains-push_cases, Contains-append_left}
use Rattle.verdicts.proofs.Extending.{push_cases}
use Rattle.std.proofs.lemmas.Option.{slice_get_within, get_or_from_slice_get, slice_get-get_or}
use Rattle.cert_defs.specs.Listed.{item_numbered, AreDistinct}
use Rattle.cert_defs.specs.Accepted.{AscendFrom}
use Rattle.cert_check.specs.Listing.{AreMarksOf, AreMarked}
use Rattle.cert_defs.proofs.Numbering.{contains_at, at_contained}

no_mark : (count place : ℕ) → slice_get (replicate count false) place ≡ Some true → ⊥
no_mark zero place at = cc
no_mark (suc count) zero at = cc
no_mark (suc count) (suc place) at = no_mark count place at

no_number : (count number : ℕ) → item_numbered (replicate count false) number ≡ Some true → Contains [] number
no_number count zero at = absurd cc
no_number count (suc place) at = absurd (no_mark count place at)

pub marks_none : (count : ℕ) → AreMarksOf count [] (replicate count false)
marks_none count =
    record {
      as_many = length-replicate count false;
      marked = λ number. (no_number count number, λ has. absurd (let lt = has.1 in omega (arith, lt)));
      once = λ one other number here there. absurd cc;
    }

-- one place of a list is written
get_set_same : {X : Type 0} (xs : List X) (i : ℕ) (a : X) → i < length xs → slice_get (set xs i a) i ≡ Some a
get_set_same xs i a lt =
    slice_get-get_or (set xs i a) i a (subst (λ (n : ℕ). i < n) (sym (length-set xs i a)) lt) ∙ ap Some (get_or-set_same xs i a a lt)

get_set_other : {X : Type 0} (xs : List X) (i j : ℕ) (a x : X) → j ≢ i → slice_get (set xs i a) j ≡ Some x → slice_get xs j ≡ Some x
get_set_other xs i j a x other at =
    let lt = subst (λ (n : ℕ). j < n) (length-set xs i a) (slice_get_within (set xs i a) j x at) in
    slice_get-get_or xs j x lt ∙ ap Some (sym (get_or-set_other xs i j a x other) ∙ get_or_from_slice_get (set xs i a) j x x at)

get_set_kept : {X : Type 0} (xs : List X) (i j : ℕ) (a x : X) → j ≢ i → slice_get xs j ≡ Some x → slice_get (set xs i a) j ≡ Some x
get_set_kept xs i j a x other at =
    let lt = subst (λ (n : ℕ). j < n) (sym (length-set xs i a)) (slice_get_within xs j x at) in
    slice_get-get_or (set xs i a) j x lt ∙ ap Some (get_or-set_other xs i j a x other ∙ get_or_from_slice_get xs j x x at)

same_or_other : (a b : ℕ) → (a ≡ b) ⊎ (a ≢ b)
same_or_other a b =
    elim (cases_lt a b) [
      | inl less ↦ inr (λ e. let same : a ≡ b = e in omega (arith, less, same))
      | inr high ↦ elim (cases_lt b a) [
        | inl more ↦ inr (λ e. let same : a ≡ b = e in omega (arith, more, same))
        | inr low ↦ inl (omega (arith, high, low))
      ]
    ]

mark_shown : (marks : List Bool) (place : ℕ) (numbers : List ℕ) (number : ℕ) → place < length marks
    → ((n : ℕ) → item_numbered marks n ≡ Some true → Contains numbers n) → item_numbered (set marks place true) number ≡ Some true
    → Contains (numbers ++ suc place ∷ []) number
mark_shown marks place numbers zero lt shown at = absurd cc
mark_shown marks place numbers (suc k) lt shown at =
    elim (same_or_other k place) [
      | inl same ↦ subst (λ (n : ℕ). Contains (numbers ++ suc place ∷ []) (suc n)) (sym same) (Contains-push numbers (suc place))
      | inr other ↦ Contains-append_left numbers (suc place ∷ []) (suc k) (shown (suc k) (get_set_other marks place k true true other at))
    ]

mark_kept : (marks : List Bool) (place : ℕ) (numbers : List ℕ) (number : ℕ) → place < length marks
    → ((n : ℕ) → Contains numbers n → item_numbered marks n ≡ Some true) → Contains (numbers ++ suc place ∷ []) number
    → item_numbered (set marks place true) number ≡ Some true
mark_kept marks place numbers number lt set_at has =
    elim (Contains-push_cases numbers (suc place) number has) [
      | inl early ↦ kept number (set_at number early)
      | inr last ↦ subst (λ (n : ℕ). item_numbered (set marks place true) n ≡ Some true) last (get_set_same marks place true lt)
    ]
  where
    kept : (n : ℕ) → item_numbered marks n ≡ Some true → item_numbered (set marks place true) n ≡ Some true
    kept zero at = absurd cc
    kept (suc k) at =
        elim (same_or_other k place) [
          | inl same ↦ subst (λ (j : ℕ). slice_get (set marks place true) j ≡ Some true) (sym same) (get_set_same marks place true lt)
          | inr other ↦ get_set_kept marks place k true true other at
        ]

-- distinct numbers, and one that is none of them
pub distinct_more : (numbers : List ℕ) (number : ℕ) → AreDistinct numbers → (Contains numbers number → ⊥) → AreDistinct (numbers ++ number ∷ [])
distinct_more numbers number distinct new one other n here there =
    elim (push_cases numbers number one n here) [
      | inl early ↦ elim (push_cases numbers number other n there) [
        | inl also ↦ distinct one other n early also
        | inr last ↦ absurd (new (subst (Contains numbers) (sym last.1) (contains_at numbers one n early)))
      ]
      | inr last ↦ elim (push_cases numbers number other n there) [
        | inl early ↦ absurd (new (subst (Contains numbers) (sym last.1) (contains_at numbers other n early)))
        | inr also ↦ last.0 ∙ sym also.0
      ]
    ]

-- one more number is marked, which was not
pub marks_more : (count : ℕ) (numbers : List ℕ) (marks : List Bool) (place : ℕ) → AreMarksOf count numbers marks → place < count
    → slice_get marks place ≡ Some false → AreMarksOf count (numbers ++ suc place ∷ []) (set marks place true)
marks_more count numbers marks place are lt free =
    let within : place < length marks = omega (arith, lt, are.as_many) in
    record {
      as_many = length-set marks place true ∙ are.as_many;
      marked = λ number. (
        mark_shown marks place numbers number within (λ n. (are.marked n).0),
        mark_kept marks place numbers number within (λ n. (are.marked n).1),
      );
      once = distinct_more numbers (suc place) are.once (λ has. let at = (are.marked (suc place)).1 has in cc);
    }

-- a number above all of an ascending list goes to its end
ascend_push : (least top : ℕ) (numbers : List ℕ) → AscendFrom least numbers → ((n : ℕ) → Contains numbers n → n ≤ top) → least ≤ top + 1
    → AscendFrom least (numbers ++ (top + 1) ∷ [])
ascend_push least top [] up low less = (less, tt)
ascend_push least top (n ∷ ns) up low less = (
  up.0,
  ascend_push (n + 1) top ns up.1
      (λ m has. let at = at_contained ns m has in low m (contains_at (n ∷ ns) (suc at.0) m at.1))
      (let first = low n (contains_at (n ∷ ns) 0 n refl) in omega (arith, first)),
)

pub marked_none : (marks : List Bool) → AreMarked marks 0 []
marked_none marks =
    record {
      ascending = tt;
      same = λ number. (λ has. absurd (let lt = has.1 in omega (arith, lt)), λ both. none number both.0 both.1);
    }
  where
    none : (number : ℕ) → number ≤ 0 → item_numbered marks number ≡ Some true → Contains [] number
    none zero le at = absurd cc
    none (suc k) le at = absurd (omega (arith, le))

-- where the next place has no mark, the numbers stay
pub marked_same : (marks : List Bool) (place : ℕ) (numbers : List ℕ) → AreMarked marks place numbers → slice_get marks place ≡ Some false
    → AreMarked marks (place + 1) numbers
marked_same marks place numbers are free =
    record {
      ascending = are.ascending;
      same = λ number. (
        λ has. let both = (are.same number).0 has in (let le = both.0 in omega (arith, le), both.1),
        λ both. (are.same number).1 (below number both.0 both.1, both.1),
      );
    }
  where
    below : (number : ℕ) → number ≤ place + 1 → item_numbered marks number ≡ Some true → number ≤ place
    below zero le at = omega arith
    below (suc k) le at =
        elim (same_or_other k place) [
          | inl same ↦ absurd (let also = subst (λ (j : ℕ). slice_get marks j ≡ Some true) same at in cc)
          | inr other ↦ omega (arith, le, other)
        ]

-- where it has one, its number is added
pub marked_more : (marks : List Bool) (place : ℕ) (numbers : List ℕ) → AreMarked marks place numbers → slice_get marks place ≡ Some true
    → AreMarked marks (place + 1) (numbers ++ (place + 1) ∷ [])
marked_more marks place numbers are is_set =
    record {
      ascending = ascend_push 1 place numbers are.ascending (λ n has. ((are.same n).0 has).0) (omega arith);
      same = λ number. (shown number, kept number);
    }
  where
    here : item_numbered marks (place + 1) ≡ Some true
    here = subst (λ (n : ℕ). item_numbered marks n ≡ Some true) (let e : suc place ≡ place + 1 = omega arith in e) is_set

    shown : (number : ℕ) → Contains (numbers ++ (place + 1) ∷ []) number → (number ≤ place + 1) × (item_numbered marks number ≡ Some true)
    shown number has =
        elim (Contains-push_cases numbers (place + 1) number has) [
          | inl early ↦ let both = (are.same number).0 early in (let le = both.0 in omega (arith, le), both.1)
          | inr last ↦ (let e : place + 1 ≡ number = last in omega (arith, e), subst (λ (n : ℕ). item_numbered marks n ≡ Some true) last here)
        ]

    kept : (number : ℕ) → (number ≤ place + 1) × (item_numbered marks number ≡ Some true) → Contains (numbers ++ (place + 1) ∷ []) number
    kept number both =
        elim (cases_lt number (place + 1)) [
          | inl less ↦ Contains-append_left numbers ((place + 1) ∷ []) number ((are.same number).1 (omega (arith, less), both.1))
          | inr high ↦
              let le = both.0 in
              let e : place + 1 ≡ number = omega (arith, high, le) in
              subst (Contains (numbers ++ (place + 1) ∷ [])) e (Contains-push numbers (place + 1))
        ]
