-- The pairs parted by their starts, a start at a time.
use Rattle.std.proofs.Common.{arith, ◌≡◌, ◌∙◌, ℕ, zero, suc, ◌+◌, ◌-◌, ◌<◌, ◌≤◌, List, [], ◌∷◌, length, take, drop, length-drop, refl, ap, sym}
use Rattle.mend_groups.specs.declared.rows.Row.{Row}
use Rattle.std.proofs.lemmas.List.{take_rest, drop-drop, drop_all}
use Rattle.mend_groups.specs.declared.groups.Group.{Group}
use Rattle.mend_groups.specs.Groups.{run_of, star_len, stars_from, stars_of, with_star, grouped}

-- as many turns as there are pairs are enough
enough : (n m : ℕ) (rows : List Row) → length rows ≤ n → length rows ≤ m → stars_from n rows ≡ stars_from m rows
unfolding stars_from
enough zero zero rows left right = refl
enough zero (suc m) [] left right = refl
enough zero (suc m) (r ∷ rows) left right = absurd (omega (arith, left))
enough (suc n) zero [] left right = refl
enough (suc n) zero (r ∷ rows) left right = absurd (omega (arith, right))
enough (suc n) (suc m) [] left right = refl
enough (suc n) (suc m) (r ∷ rows) left right =
    let rest : List Row = drop (run_of r.start rows) rows in
    let fewer : length rest ≤ length rows = omega (arith, length-drop (run_of r.start rows) rows) in
    ap (λ (stars : List (List Row)). take (star_len (r ∷ rows)) (r ∷ rows) ∷ stars) (enough n m rest (omega (arith, left, fewer)) (omega (arith, right, fewer)))

-- the first start, and then the others
pub next_star : (rows : List Row) → 0 < length rows → stars_of rows ≡ take (star_len rows) rows ∷ stars_of (drop (star_len rows) rows)
unfolding stars_from
next_star [] some = absurd (omega (arith, some))
next_star (r ∷ rows) some =
    let rest : List Row = drop (run_of r.start rows) rows in
    let fewer : length rest ≤ length rows = omega (arith, length-drop (run_of r.start rows) rows) in
    ap (λ (stars : List (List Row)). take (star_len (r ∷ rows)) (r ∷ rows) ∷ stars) (enough (length rows) (length rest) rest fewer (omega arith))

-- a turn of the walk: the pairs of the next start join the groups
pub star_added : (rows seen : List Row) (place count : ℕ) (groups new all : List Group) (star : List Row) → seen ≡ rows → place < length rows
    → count ≡ star_len (take (length seen - place) (drop place seen)) → star ≡ take count (take (length seen - place) (drop place seen))
    → new ≡ with_star groups star → grouped groups (stars_of (drop place rows)) ≡ all → grouped new (stars_of (drop (place + count) rows)) ≡ all
unfolding grouped
star_added rows seen place count groups new all star same low counted taken made before =
    let rest : List Row = drop place rows in
    let seen_rest : take (length seen - place) (drop place seen) ≡ rest =
    ap (λ (l : List Row). take (length l - place) (drop place l)) same ∙ take_rest rows place in
    let long : count ≡ star_len rest = counted ∙ ap star_len seen_rest in
    let is : star ≡ take (star_len rest) rest = taken ∙ ap (take count) seen_rest ∙ ap (λ (n : ℕ). take n rest) long in
    let some : 0 < length rest = omega (arith, length-drop place rows) in
    let later : drop (star_len rest) rest ≡ drop (place + count) rows =
    ap (λ (n : ℕ). drop n rest) (sym long) ∙ drop-drop count place rows in
    let step : grouped groups (stars_of rest) ≡ grouped (with_star groups (take (star_len rest) rest)) (stars_of (drop (star_len rest) rest)) =
    ap (grouped groups) (next_star rest some) in
    ap (λ (gs : List Group). grouped gs (stars_of (drop (place + count) rows))) (made ∙ ap (with_star groups) is)
    ∙ ap (λ (l : List Row). grouped (with_star groups (take (star_len rest) rest)) (stars_of l)) (sym later)
    ∙ sym step ∙ before

-- no pair is left
pub stars_over : (rows : List Row) (place : ℕ) (groups all : List Group) → length rows ≤ place
    → grouped groups (stars_of (drop place rows)) ≡ all → groups ≡ all
unfolding grouped stars_from
stars_over rows place groups all past before =
    let none : grouped groups (stars_of (drop place rows)) ≡ groups = ap (λ (l : List Row). grouped groups (stars_of l)) (drop_all place rows past) in
    sym none ∙ before
