-- The tests of pairs, a pair at a time.
use Rattle.std.proofs.Common.{arith, ◌≡◌, ◌∙◌, ℕ, suc, ◌+◌, ◌<◌, ◌≤◌, Bool, true, false, ◌&&◌, List, [], ◌∷◌, length, drop, get_or, refl, sym, ap}
use Rattle.std.proofs.lemmas.List.{drop_more, drop_all}
use Rattle.net_model.specs.declared.claims.Start.{Start}
use Rattle.mend_groups.specs.declared.rows.Row.{Row}
use Rattle.script_notices.specs.Notices.{is_start, is_end}
use Rattle.mend_groups.specs.Groups.{run_of, have_ends}

-- lists of two lengths have not the same ends
pub ends_long : (a b : List Row) → (length a ≡ length b → ⊥) → false ≡ have_ends a b
unfolding have_ends
ends_long [] [] other = absurd (other refl)
ends_long [] (y ∷ b) other = refl
ends_long (x ∷ a) [] other = refl
ends_long (x ∷ a) (y ∷ b) other =
    rw (sym (ends_long a b (λ same. other (ap (λ (n : ℕ). suc n) same)))) (grind arith)

-- the ends of two pairs, and then those of the others
ends_next : (a b : List Row) (k : ℕ) (d e : Row) → k < length a → length a ≡ length b
    → have_ends (drop k a) (drop k b) ≡ (is_end (get_or a k d).end (get_or b k e).end && have_ends (drop (k + 1) a) (drop (k + 1) b))
unfolding have_ends
ends_next a b k d e low long =
    let below : k < length b = omega arith in
    rw (drop_more a k d low, drop_more b k e below) refl

-- two ends differ
pub ends_differ : (a b : List Row) (k : ℕ) (d e : Row) (is : Bool) → k < length a → length a ≡ length b
    → have_ends a b ≡ have_ends (drop k a) (drop k b) → is ≡ is_end (get_or a k d).end (get_or b k e).end → is ≡ false → false ≡ have_ends a b
ends_differ a b k d e is low long left made not =
    sym (left ∙ ends_next a b k d e low long ∙ ap (λ (t : Bool). t && have_ends (drop (k + 1) a) (drop (k + 1) b)) (sym made ∙ not))

-- two ends are the same
pub ends_more : (a b : List Row) (k : ℕ) (d e : Row) (is : Bool) → k < length a → length a ≡ length b
    → have_ends a b ≡ have_ends (drop k a) (drop k b) → is ≡ is_end (get_or a k d).end (get_or b k e).end → is ≡ true
    → have_ends a b ≡ have_ends (drop (k + 1) a) (drop (k + 1) b)
ends_more a b k d e is low long left made same =
    left ∙ ends_next a b k d e low long ∙ ap (λ (t : Bool). t && have_ends (drop (k + 1) a) (drop (k + 1) b)) (sym made ∙ same)

-- all ends are the same
pub ends_over : (a b : List Row) (k : ℕ) → length a ≤ k → length a ≡ length b → have_ends a b ≡ have_ends (drop k a) (drop k b) → true ≡ have_ends a b
unfolding have_ends
ends_over a b k past long left = sym (left ∙ rw (drop_all k a past, drop_all k b (omega arith)) refl)

-- one pair more that has the start, or the first that has it not
run_next : (start : Start) (rows : List Row) (k : ℕ) (d : Row) → k < length rows
    → run_of start (drop k rows) ≡ run_of start (get_or rows k d ∷ drop (k + 1) rows)
run_next start rows k d low = ap (run_of start) (drop_more rows k d low)

pub run_more : (start : Start) (rows : List Row) (k : ℕ) (d : Row) (is : Bool) → k < length rows → run_of start rows ≡ k + run_of start (drop k rows)
    → is ≡ is_start start (get_or rows k d).start → is ≡ true → run_of start rows ≡ (k + 1) + run_of start (drop (k + 1) rows)
unfolding run_of
run_more start rows k d is low left made same =
    let one : run_of start (get_or rows k d ∷ drop (k + 1) rows) ≡ suc (run_of start (drop (k + 1) rows)) = rw (sym made ∙ same) refl in
    let next : run_of start (drop k rows) ≡ suc (run_of start (drop (k + 1) rows)) = run_next start rows k d low ∙ one in
    omega (arith, left, next)

pub run_ends : (start : Start) (rows : List Row) (k : ℕ) (d : Row) (is : Bool) → k < length rows → run_of start rows ≡ k + run_of start (drop k rows)
    → is ≡ is_start start (get_or rows k d).start → is ≡ false → k ≡ run_of start rows
unfolding run_of
run_ends start rows k d is low left made not =
    let none : run_of start (get_or rows k d ∷ drop (k + 1) rows) ≡ 0 = rw (sym made ∙ not) refl in
    let next : run_of start (drop k rows) ≡ 0 = run_next start rows k d low ∙ none in
    omega (arith, left, next)

pub run_over : (start : Start) (rows : List Row) (k : ℕ) → length rows ≤ k → k ≤ length rows → run_of start rows ≡ k + run_of start (drop k rows)
    → length rows ≡ run_of start rows
unfolding run_of
run_over start rows k past low left =
    let none : run_of start (drop k rows) ≡ 0 = rw (drop_all k rows past) refl in
    omega (arith, left, none)
