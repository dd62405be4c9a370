-- What holds of the groups of some pairs.
use Rattle.std.proofs.Common.{arith, ◌≡◌, ◌∙◌, ℕ, zero, suc, ◌+◌, ◌≤◌, Bool, true, false, not, ◌&&◌, List, [], ◌∷◌, ◌++◌, length, length-drop, take, drop, refl, sym, ap, subst, inl, inr}
use Rattle.std.specs.Prelude.{All, count_by, flat_map, cond, if◌then◌else◌}
use Rattle.std.proofs.lemmas.Bool.{cases_Bool, and_parts}
use Rattle.std.proofs.lemmas.List.{append-nil, take-append-drop}
use Rattle.std.proofs.lemmas.List.Elements.{All-nil, All-cons, All-head, All-tail, All-append, All-push, All-take, All-drop, All-same, All-weaker, filter_passes}
use Rattle.std.proofs.lemmas.Grind.{flat_map-append}
use Rattle.std.proofs.lemmas.List.Sums.{sum_by-append}
use Rattle.net_model.specs.declared.claims.Start.{Start}
use Rattle.exception_expand.specs.declared.sides.Sides.{Sides}
use Rattle.exception_expand.specs.declared.sides.Sides.TheVariants.{Late, Early, Both}
use Rattle.mend_groups.specs.declared.rows.Row.{Row}
use Rattle.mend_groups.specs.declared.groups.Group.{Group}
use Rattle.mend_groups.specs.Laws.{IsStar, IsGroup, IsSided, pairs_of, pairs_in}
use Rattle.script_notices.specs.Notices.{is_start}
use Rattle.mend_groups.specs.Groups.{run_of, star_len, stars_from, stars_of, have_ends, are_alike, is_like, fits_in, group_of, with_star, grouped, written_of, is_written_as, written_as, groups_as, groups_of}

-- what holds of each pair holds of those of each start
stars_hold : (P : Row → Type 0) (n : ℕ) (rows : List Row) → All P rows → All (All P) (stars_from n rows)
unfolding stars_from
stars_hold P zero rows all = All-nil (All P)
stars_hold P (suc n) [] all = All-nil (All P)
stars_hold P (suc n) (r ∷ rows) all =
    let long : ℕ = star_len (r ∷ rows) in
    All-cons (All P) (take long (r ∷ rows)) (stars_from n (drop long (r ∷ rows))) (All-take P long (r ∷ rows) all)
    (stars_hold P n (drop long (r ∷ rows)) (All-drop P long (r ∷ rows) all))

-- what holds of the pairs of each start of a group
abbrev Each : (List Row → Type 0) → Group → Type 0
Each P g = All P g.stars

-- it holds still where a start joins
star_holds : (P : List Row → Type 0) (groups : List Group) (star : List Row) → All (Each P) groups → P star → All (Each P) (with_star groups star)
unfolding with_star
star_holds P [] star all here =
    All-cons (Each P) (group_of star) [] (All-cons P star [] here (All-nil P)) (All-nil (Each P))
star_holds P (g ∷ groups) star all here =
    let first : Each P g = All-head (Each P) g groups all in
    let rest : All (Each P) groups = All-tail (Each P) g groups all in
    elim (cases_Bool (fits_in star g)) as (λ z. All (Each P) (with_star (g ∷ groups) star)) [
      | inl is ↦ rw is (All-cons (Each P) (record { stars = g.stars ++ star ∷ [] }) groups (All-push P g.stars star first here) rest)
      | inr not ↦ rw not (All-cons (Each P) g (with_star groups star) first (star_holds P groups star rest here))
    ]

grouped_hold : (P : List Row → Type 0) (stars : List (List Row)) (groups : List Group) → All (Each P) groups → All P stars → All (Each P) (grouped groups stars)
unfolding grouped
grouped_hold P [] groups all here = all
grouped_hold P (star ∷ stars) groups all here =
    grouped_hold P stars (with_star groups star) (star_holds P groups star all (All-head P star stars here)) (All-tail P star stars here)

-- what holds of the groups whatever sides are written holds of all groups
sides_hold : (Q : Group → Type 0) (rows : List Row) → ((sides : Sides) → All Q (groups_as sides rows)) → All Q (groups_of rows)
sides_hold Q rows each =
    All-append Q (groups_as Both rows) (groups_as Late rows ++ groups_as Early rows) (each Both)
    (All-append Q (groups_as Late rows) (groups_as Early rows) (each Late) (each Early))

-- what holds of each side that is written with just these holds of each in their groups
as_hold : (P : Row → Type 0) (sides : Sides) (rows : List Row) → All P (written_as sides rows) → All (Each (All P)) (groups_as sides rows)
as_hold P sides rows all =
    grouped_hold (All P) (stars_of (written_as sides rows)) [] (All-nil (Each (All P)))
    (stars_hold P (length (written_as sides rows)) (written_as sides rows) all)

-- what holds of each written side holds of each of the groups
pub groups_hold : (P : Row → Type 0) (rows : List Row) → ((sides : Sides) → All P (written_as sides rows))
    → All (λ (g : Group). All (All P) g.stars) (groups_of rows)
groups_hold P rows each = sides_hold (Each (All P)) rows (λ sides. as_hold P sides rows (each sides))

-- of the pairs of a group the same sides are written
pub groups_sided : (rows : List Row) → All IsSided (groups_of rows)
groups_sided rows =
    sides_hold IsSided rows (λ sides.
    let Is : Row → Type 0 = λ (r : Row). is_written_as sides r ≡ true in
    All-weaker (Each (All Is)) IsSided (λ g all. record { sides = sides; same = all }) (groups_as sides rows)
    (as_hold Is sides rows (filter_passes (is_written_as sides) rows)))

-- what is written with some sides is written
pub written_by : (sides : Sides) (r : Row) → is_written_as sides r ≡ true → r.written ≡ true
written_by Both r is = (and_parts r.written r.beside is).0
written_by Late r is = (and_parts r.written (not r.beside && not r.early) is).0
written_by Early r is = (and_parts r.written (not r.beside && r.early) is).0

-- the first pairs that have a start have it
run_same : (start : Start) (rows : List Row) → All (λ (r : Row). is_start start r.start ≡ true) (take (run_of start rows) rows)
unfolding run_of
run_same start [] = All-nil (λ (r : Row). is_start start r.start ≡ true)
run_same start (r ∷ rows) =
    elim (cases_Bool (is_start start r.start)) as
    (λ z. All (λ (x : Row). is_start start x.start ≡ true) (take (run_of start (r ∷ rows)) (r ∷ rows))) [
      | inl is ↦
          rw (is, run_of)
          (All-cons (λ (x : Row). is_start start x.start ≡ true) r (take (run_of start rows) rows) is (run_same start rows))
      | inr not ↦ rw (not, run_of) (All-nil (λ (x : Row). is_start start x.start ≡ true))
    ]

stars_parted : (n : ℕ) (rows : List Row) → All IsStar (stars_from n rows)
unfolding stars_from
stars_parted zero rows = All-nil IsStar
stars_parted (suc n) [] = All-nil IsStar
stars_parted (suc n) (r ∷ rows) =
    let long : ℕ = star_len (r ∷ rows) in
    let first : IsStar (take long (r ∷ rows)) =
    record { head = r; more = take (run_of r.start rows) rows; rows = refl; same = run_same r.start rows } in
    All-cons IsStar (take long (r ∷ rows)) (stars_from n (drop long (r ∷ rows))) first (stars_parted n (drop long (r ∷ rows)))

pub groups_parted : (rows : List Row) → All (λ (g : Group). All IsStar g.stars) (groups_of rows)
groups_parted rows =
    sides_hold (Each IsStar) rows (λ sides.
    grouped_hold IsStar (stars_of (written_as sides rows)) [] (All-nil (Each IsStar)) (stars_parted (length (written_as sides rows)) (written_as sides rows)))

-- lists with the same ends have as many pairs
ends_count : (first second : List Row) → have_ends first second ≡ true → length first ≡ length second
unfolding have_ends
ends_count [] [] same = refl
ends_count [] (b ∷ second) same = absurd cc
ends_count (a ∷ first) [] same = absurd cc
ends_count (a ∷ first) (b ∷ second) same =
    let (here, more) = and_parts _ (have_ends first second) same in
    ap (λ (n : ℕ). suc n) (ends_count first second more)

-- those that are alike too
pub alike_count : (first second : List Row) → are_alike first second ≡ true → length first ≡ length second
alike_count [] second same = absurd cc
alike_count (a ∷ first) [] same = absurd cc
alike_count (a ∷ first) (b ∷ second) same =
    let (here, more) = and_parts (is_like a b) (have_ends (a ∷ first) (b ∷ second)) same in
    ends_count (a ∷ first) (b ∷ second) more

-- a group is still one where a start joins
group_joined : (g : Group) (star : List Row) → IsGroup g → fits_in star g ≡ true → IsGroup (record { stars = g.stars ++ star ∷ [] })
group_joined g star is fits =
    let goes : are_alike is.head star ≡ true = subst (λ (stars : List (List Row)). fits_in star (record { stars = stars }) ≡ true) is.stars fits in
    record {
      head = is.head;
      more = is.more ++ star ∷ [];
      stars = ap (λ (stars : List (List Row)). stars ++ star ∷ []) is.stars;
      alike = All-push (λ (other : List Row). are_alike is.head other ≡ true) is.more star is.alike goes;
    }

star_joined : (groups : List Group) (star : List Row) → All IsGroup groups → All IsGroup (with_star groups star)
unfolding with_star
star_joined [] star all =
    let one : IsGroup (group_of star) =
    record { head = star; more = []; stars = refl; alike = All-nil (λ (other : List Row). are_alike star other ≡ true) } in
    All-cons IsGroup (group_of star) [] one (All-nil IsGroup)
star_joined (g ∷ groups) star all =
    let first : IsGroup g = All-head IsGroup g groups all in
    let rest : All IsGroup groups = All-tail IsGroup g groups all in
    elim (cases_Bool (fits_in star g)) as (λ z. All IsGroup (with_star (g ∷ groups) star)) [
      | inl is ↦ rw is (All-cons IsGroup (record { stars = g.stars ++ star ∷ [] }) groups (group_joined g star first is) rest)
      | inr not ↦ rw not (All-cons IsGroup g (with_star groups star) first (star_joined groups star rest))
    ]

grouped_are : (stars : List (List Row)) (groups : List Group) → All IsGroup groups → All IsGroup (grouped groups stars)
unfolding grouped
grouped_are [] groups all = all
grouped_are (star ∷ stars) groups all = grouped_are stars (with_star groups star) (star_joined groups star all)

pub groups_are : (rows : List Row) → All IsGroup (groups_of rows)
groups_are rows = sides_hold IsGroup rows (λ sides. grouped_are (stars_of (written_as sides rows)) [] (All-nil IsGroup))

-- all starts of a group have as many pairs
pub group_even : (g : Group) → IsGroup g → (n : ℕ) × All (λ (star : List Row). length star ≡ n) g.stars
group_even g is =
    let n : ℕ = length is.head in
    let same : All (λ (star : List Row). length star ≡ n) is.more =
    All-weaker (λ (star : List Row). are_alike is.head star ≡ true) (λ (star : List Row). length star ≡ n)
    (λ star goes. sym (alike_count is.head star goes)) is.more is.alike in (
      n,
      All-same (λ (star : List Row). length star ≡ n) g.stars (is.head ∷ is.more) is.stars
          (All-cons (λ (star : List Row). length star ≡ n) is.head is.more refl same),
    )

-- the starts part the pairs
stars_whole : (n : ℕ) (rows : List Row) → length rows ≤ n → pairs_of (stars_from n rows) ≡ rows
unfolding stars_from
stars_whole zero [] few = refl
stars_whole zero (r ∷ rows) few = absurd (omega arith)
stars_whole (suc n) [] few = refl
stars_whole (suc n) (r ∷ rows) few =
    let long : ℕ = star_len (r ∷ rows) in
    let rest : List Row = drop (run_of r.start rows) rows in
    ap (λ (xs : List Row). take long (r ∷ rows) ++ xs) (stars_whole n rest (omega (arith, length-drop (run_of r.start rows) rows)))
    ∙ take-append-drop long (r ∷ rows)

-- of two lists together as many pass as of both
both : (p : Row → Bool) (xs ys : List Row) → count_by p (xs ++ ys) ≡ count_by p xs + count_by p ys
both p xs ys = sum_by-append (λ (r : Row). cond (p r) 1 0) xs ys

-- the pairs of a start are among those of the groups, once
count_joined : (p : Row → Bool) (groups : List Group) (star : List Row)
    → count_by p (pairs_in (with_star groups star)) ≡ count_by p (pairs_in groups) + count_by p star
unfolding with_star
count_joined p [] star = ap (count_by p) (append-nil (star ++ []) ∙ append-nil star) ∙ omega arith
count_joined p (g ∷ groups) star =
    elim (cases_Bool (fits_in star g)) as (λ z. count_by p (pairs_in (with_star (g ∷ groups) star)) ≡ count_by p (pairs_in (g ∷ groups)) + count_by p star) [
      | inl is ↦
          rw is
          (let own = both p (pairs_of g.stars) (star ++ []) in
          let now = both p (pairs_of (g.stars ++ star ∷ [])) (pairs_in groups) in
          let before = both p (pairs_of g.stars) (pairs_in groups) in
          let joins = ap (count_by p) (flat_map-append (λ (s : List Row). s) g.stars (star ∷ [])) in
          let alone = ap (count_by p) (append-nil star) in
          omega (arith, own, now, before, joins, alone))
      | inr not ↦
          rw not
          (let now = both p (pairs_of g.stars) (pairs_in (with_star groups star)) in
          let before = both p (pairs_of g.stars) (pairs_in groups) in
          omega (arith, now, before, count_joined p groups star))
    ]

count_grouped : (p : Row → Bool) (stars : List (List Row)) (groups : List Group)
    → count_by p (pairs_in (grouped groups stars)) ≡ count_by p (pairs_in groups) + count_by p (pairs_of stars)
unfolding grouped
count_grouped p [] groups = omega arith
count_grouped p (star ∷ stars) groups =
    let later = count_grouped p stars (with_star groups star) in
    let now = count_joined p groups star in
    let parts = both p star (pairs_of stars) in
    omega (arith, later, now, parts)

-- as often as among those that are written with just these sides
as_count : (p : Row → Bool) (sides : Sides) (rows : List Row) → count_by p (pairs_in (groups_as sides rows)) ≡ count_by p (written_as sides rows)
as_count p sides rows =
    let written : List Row = written_as sides rows in
    let whole = ap (count_by p) (stars_whole (length written) written (omega arith)) in
    let made = count_grouped p (stars_of written) [] in
    omega (arith, whole, made)

-- a side that is written is so with both sides, with the late one alone or with the early one alone
parted : (written beside early : Bool) (n : ℕ) → cond (written && beside) n 0
    + (cond (written && (not beside && not early)) n 0 + cond (written && (not beside && early)) n 0) ≡ cond written n 0
parted false beside early n = omega arith
parted true true early n = omega arith
parted true false true n = omega arith
parted true false false n = omega arith

count_if : (p : Row → Bool) (b : Bool) (r : Row) (rest : List Row) → count_by p (if b then r ∷ rest else rest) ≡ cond b (cond (p r) 1 0) 0 + count_by p rest
count_if p true r rest = let own = both p (r ∷ []) rest in omega (arith, own)
count_if p false r rest = omega arith

count_parted : (p : Row → Bool) (rows : List Row)
    → count_by p (written_as Both rows) + (count_by p (written_as Late rows) + count_by p (written_as Early rows)) ≡ count_by p (written_of rows)
count_parted p [] = refl
count_parted p (r ∷ rows) =
    let one = parted r.written r.beside r.early (cond (p r) 1 0) in
    let two = count_if p (is_written_as Both r) r (written_as Both rows) in
    let late = count_if p (is_written_as Late r) r (written_as Late rows) in
    let early = count_if p (is_written_as Early r) r (written_as Early rows) in
    let all = count_if p r.written r (written_of rows) in
    omega (arith, one, two, late, early, all, count_parted p rows)

-- each written side stands in the groups as often as among the sides: whatever is asked of them, as many pass
pub groups_count : (p : Row → Bool) (rows : List Row) → count_by p (pairs_in (groups_of rows)) ≡ count_by p (written_of rows)
groups_count p rows =
    let gs : Sides → List Group = λ sides. groups_as sides rows in
    let made = λ (xs ys : List Group). ap (count_by p) (flat_map-append (λ (g : Group). pairs_of g.stars) xs ys) ∙ both p (pairs_in xs) (pairs_in ys) in
    omega (
      arith,
      made (gs Both) (gs Late ++ gs Early),
      made (gs Late) (gs Early),
      as_count p Both rows,
      as_count p Late rows,
      as_count p Early rows,
      count_parted p rows,
    )

-- what holds of each item of what is made of each item holds of all that is made
All-flat_map : {A B : Type 0} (P : B → Type 0) (f : A → List B) (xs : List A) → All (λ x. All P (f x)) xs → All P (flat_map f xs)
All-flat_map P f [] each = All-nil P
All-flat_map P f (x ∷ xs) each =
    All-append P (f x) (flat_map f xs) (All-head (λ y. All P (f y)) x xs each) (All-flat_map P f xs (All-tail (λ y. All P (f y)) x xs each))

-- what holds of each pair of each start of some groups holds of all their pairs
pub pairs_hold : (P : Row → Type 0) (groups : List Group) → All (λ (g : Group). All (All P) g.stars) groups → All P (pairs_in groups)
pairs_hold P groups each =
    All-flat_map P (λ (g : Group). pairs_of g.stars) groups
    (All-weaker (Each (All P)) (λ (g : Group). All P (pairs_of g.stars)) (λ g all. All-flat_map P (λ (star : List Row). star) g.stars all) groups each)
