-- The numbers of nets in the rewritten design.
use Rattle.std.proofs.Common.{◌≡◌, ℕ, suc, ◌+◌, nat_eq, Bool, true, false, List, [], ◌∷◌, ◌++◌, length, refl, ap, sym, ◌∙◌, arith, inl, inr}
use Rattle.std.specs.Prelude.{Some, slice_get}
use Rattle.std.proofs.lemmas.Bool.{cases_lt}
use Rattle.std.proofs.lemmas.List.{length-append}
use Rattle.std.proofs.lemmas.Option.{get_or_from_slice_get}
use Rattle.icg_rewrite.proofs.Lists.{left_at, right_at}
use Rattle.link_defs.specs.Designs.{number_by}
use Rattle.link_design.specs.Rows.{IsDriverRow}
use Rattle.net_link.specs.Rows.{number_in, enabled_number, AreEnabled}

-- the first of some nets has its own number
first_number : (nets place : ℕ) → 0 ≡ enabled_number (suc nets) 0 place
first_number nets place = grind arith

-- one net more before the others
one_further : (nets number place : ℕ) → 1 + enabled_number nets number place ≡ enabled_number (suc nets) (1 + number) place
one_further nets number place = grind arith

-- one driver more before the others
one_before : (n x : ℕ) (xs ys : List ℕ) (b : Bool) → nat_eq n x ≡ b
    → number_by (xs ++ ys) n ≡ enabled_number (length xs) (number_by xs n) (number_by ys n)
    → number_by (x ∷ (xs ++ ys)) n ≡ enabled_number (length (x ∷ xs)) (number_by (x ∷ xs) n) (number_by ys n)
one_before n x xs ys true e rest = rw e (first_number (length xs) (number_by ys n))
one_before n x xs ys false e rest = rw (e, rest) (one_further (length xs) (number_by xs n) (number_by ys n))

-- a net's number among two lists of drivers is its place in the first, and else after these its place in the second
number_of_both : (xs ys : List ℕ) (n : ℕ) → number_by (xs ++ ys) n ≡ enabled_number (length xs) (number_by xs n) (number_by ys n)
number_of_both [] ys n = let same : number_by ys n ≡ 0 + number_by ys n = omega arith in same
number_of_both (x ∷ xs) ys n = one_before n x xs ys (nat_eq n x) refl (number_of_both xs ys n)

-- a row for one list of drivers and a row for another give the row for both
pub enabled_row : (xs ys numbers row list : List ℕ) (nets : ℕ) → IsDriverRow xs nets numbers → IsDriverRow ys nets row
    → AreEnabled (length xs) numbers row (length numbers) list → IsDriverRow (xs ++ ys) nets list
enabled_row xs ys numbers row list nets first second are = record {
  len = are.len ∙ first.len;
  at = λ net lt.
      let own : number_in numbers net ≡ number_by xs net = get_or_from_slice_get numbers net (number_by xs net) 0 (first.at net lt) in
      let other : number_in row net ≡ number_by ys net = get_or_from_slice_get row net (number_by ys net) 0 (second.at net lt) in
      are.at net (omega (arith, lt, first.len))
      ∙ (ap (λ (k : ℕ). Some (enabled_number (length xs) k (number_in row net))) own
      ∙ (ap (λ (k : ℕ). Some (enabled_number (length xs) (number_by xs net) k)) other
      ∙ ap (λ (k : ℕ). Some k) (sym (number_of_both xs ys net))));
}

-- no net
pub enabled_none : (nets : ℕ) (numbers row list : List ℕ) → list ≡ [] → AreEnabled nets numbers row 0 list
enabled_none nets numbers row list none = record { len = ap (λ (xs : List ℕ). length xs) none; at = λ net lt. absurd (omega (arith, lt)) }

-- one net more
pub enabled_more : (nets : ℕ) (numbers row list : List ℕ) (count number place enabled : ℕ) → AreEnabled nets numbers row count list
    → number ≡ number_in numbers count → place ≡ number_in row count → enabled ≡ enabled_number nets number place
    → AreEnabled nets numbers row (count + 1) (list ++ enabled ∷ [])
enabled_more nets numbers row list count number place enabled are own other is = record {
  len = length-append list (enabled ∷ []) ∙ omega (arith, are.len);
  at = λ net lt. elim (cases_lt net count) [
    | inl less ↦ left_at list (enabled ∷ []) net (enabled_number nets (number_in numbers net) (number_in row net)) (are.at net less)
    | inr past ↦
        let same : net ≡ count = omega (arith, lt, past) in
        let here : net ≡ length list + 0 = omega (arith, same, are.len) in
        ap (λ (k : ℕ). slice_get (list ++ enabled ∷ []) k) here
        ∙ right_at list (enabled ∷ []) 0
        ∙ ap (λ (k : ℕ). Some k) is
        ∙ ap (λ (k : ℕ). Some (enabled_number nets k place)) own
        ∙ ap (λ (k : ℕ). Some (enabled_number nets (number_in numbers count) k)) other
        ∙ ap (λ (k : ℕ). Some (enabled_number nets (number_in numbers k) (number_in row k))) (sym same)
  ];
}
