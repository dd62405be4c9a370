-- The groups in which the written pairs of an exception stand.
use Rattle.std.specs.Prelude.{ℕ, zero, suc, Bool, true, false, ◌&&◌, not, if◌then◌else◌, List, [], ◌∷◌, ◌++◌, filter, take, drop, length}
use Rattle.net_model.specs.declared.claims.Start.{Start}
use Rattle.net_model.specs.declared.claims.Start.TheVariants.{Reg as RegStart, Input as InputStart}
use Rattle.exception_expand.specs.declared.sides.Sides.{Sides}
use Rattle.exception_expand.specs.declared.sides.Sides.TheVariants.{Late, Early, Both}
use Rattle.script_notices.specs.Companions.{is_edge}
use Rattle.script_notices.specs.Notices.{is_start, is_end}
use Rattle.mend_groups.specs.declared.rows.Row.{Row}
use Rattle.mend_groups.specs.declared.groups.Group.{Group}

-- both starts are registers, or both are inputs
abbrev pub is_class : Start → Start → Bool
is_class (RegStart a) (RegStart b) = true
is_class (InputStart a) (InputStart b) = true
is_class _ _ = false

-- how many of the first pairs have this start
unfoldable pub run_of : Start → List Row → ℕ
run_of start [] = 0
run_of start (r ∷ rows) = if is_start start r.start then suc (run_of start rows) else 0

-- how many of the first pairs have the start of the first one
abbrev pub star_len : List Row → ℕ
star_len [] = 0
star_len (r ∷ rows) = suc (run_of r.start rows)

-- the pairs parted by their starts, which stand together in the order of the design; of at most n starts
unfoldable pub stars_from : ℕ → List Row → List (List Row)
stars_from zero rows = []
stars_from (suc n) [] = []
stars_from (suc n) (r ∷ rows) = take (star_len (r ∷ rows)) (r ∷ rows) ∷ stars_from n (drop (star_len (r ∷ rows)) (r ∷ rows))

-- all starts of some pairs
abbrev pub stars_of : List Row → List (List Row)
stars_of rows = stars_from (length rows) rows

-- the pairs have the same ends in the same order
unfoldable pub have_ends : List Row → List Row → Bool
have_ends [] [] = true
have_ends (a ∷ first) (b ∷ second) = is_end a.end b.end && have_ends first second
have_ends [] (b ∷ second) = false
have_ends (a ∷ first) [] = false

-- starts of one class, at the same changes
abbrev pub is_like : Row → Row → Bool
is_like a b = is_class a.start b.start && is_edge a.edge b.edge

-- and with the same ends
abbrev pub are_alike : List Row → List Row → Bool
are_alike (a ∷ first) (b ∷ second) = is_like a b && have_ends (a ∷ first) (b ∷ second)
are_alike _ _ = false

-- the pairs of a start go with those of the group's first one
abbrev pub fits_in : List Row → Group → Bool
fits_in star g = elim g.stars [ [] ↦ false | head ∷ more ↦ are_alike head star ]

-- a group of one start
abbrev pub group_of : List Row → Group
group_of star = record { stars = star ∷ [] }

-- the pairs of one start more: they join the first group with which they go, or begin one at the list's end
unfoldable pub with_star : List Group → List Row → List Group
with_star [] star = group_of star ∷ []
with_star (g ∷ groups) star = if fits_in star g then record { stars = g.stars ++ star ∷ [] } ∷ groups else g ∷ with_star groups star

-- the pairs of the starts in order
unfoldable pub grouped : List Group → List (List Row) → List Group
grouped groups [] = groups
grouped groups (star ∷ stars) = grouped (with_star groups star) stars

-- the sides that are written again where their exception is not whole
abbrev pub written_of : List Row → List Row
written_of rows = filter (λ (r : Row). r.written) rows

-- of the side's pair just these are written: both, or one alone
abbrev pub is_written_as : Sides → Row → Bool
is_written_as Both r = r.written && r.beside
is_written_as Late r = r.written && (not r.beside && not r.early)
is_written_as Early r = r.written && (not r.beside && r.early)

abbrev pub written_as : Sides → List Row → List Row
written_as sides rows = filter (is_written_as sides) rows

-- the groups of the pairs of which just these sides are written
abbrev pub groups_as : Sides → List Row → List Group
groups_as sides rows = grouped [] (stars_of (written_as sides rows))

-- the groups of the written ones: of the pairs with both sides, then of those with the late one alone, then of those with the early one
abbrev pub groups_of : List Row → List Group
groups_of rows = groups_as Both rows ++ (groups_as Late rows ++ groups_as Early rows)
