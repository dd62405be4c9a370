-- What holds of the groups of an exception: they are exactly its written pairs, as products of starts and ends.
use Rattle.std.specs.Prelude.{◌≡◌, ℕ, Bool, true, false, List, [], ◌∷◌, All, Some, slice_get, count_by}
use Rattle.std.specs.List.{flat_map}
use Rattle.net_model.specs.declared.claims.Claim.{Claim}
use Rattle.selected_types.specs.declared.selections.Selected.{Selected}
use Rattle.verdict_types.specs.declared.outcomes.Proof.{Proof}
use Rattle.verdict_types.specs.declared.outcomes.Verdict.{Verdict}
use Rattle.verdict_types.specs.declared.outcomes.Verdict.TheVariants.{Justified}
use Rattle.exception_expand.specs.declared.sides.Sides.{Sides}
use Rattle.mend_groups.specs.declared.rows.Row.{Row}
use Rattle.mend_groups.specs.declared.groups.Group.{Group}
use Rattle.mend_groups.specs.declared.parts.Part.{Part}
use Rattle.mend_groups.specs.Rows.{are_kept}
use Rattle.script_notices.specs.Notices.{is_start}
use Rattle.mend_groups.specs.Groups.{are_alike, written_of, is_written_as}

-- the pair at a place is kept: its claim is there, and is justified
pub record IsKeptAt (s : Selected) (verdicts : List Verdict) (place : ℕ) : Type 0 where
  pub claim : Claim
  pub claimed : slice_get s.claims place ≡ Some claim
  pub proof : Proof
  pub justified : slice_get verdicts place ≡ Some (Justified proof)

-- pairs of one start, of which there is one at least
pub record IsStar (star : List Row) : Type 0 where
  pub head : Row
  pub more : List Row
  pub rows : star ≡ head ∷ more
  pub same : All (λ (r : Row). is_start head.start r.start ≡ true) more

-- a group has a first start, and each other one has its ends, is of its class and counts the same changes
pub record IsGroup (g : Group) : Type 0 where
  pub head : List Row
  pub more : List (List Row)
  pub stars : g.stars ≡ head ∷ more
  pub alike : All (λ (star : List Row). are_alike head star ≡ true) more

-- all pairs of some starts, and of some groups
abbrev pub pairs_of : List (List Row) → List Row
pairs_of stars = flat_map (λ (star : List Row). star) stars

abbrev pub pairs_in : List Group → List Row
pairs_in groups = flat_map (λ (g : Group). pairs_of g.stars) groups

-- of each pair of the group the same sides are written
pub record IsSided (g : Group) : Type 0 where
  pub sides : Sides
  pub same : All (All (λ (r : Row). is_written_as sides r ≡ true)) g.stars

-- an exception that is whole has no groups; those of another one are products of starts and ends, their pairs are kept, and each of
-- its written pairs stands in them once: whatever is asked of pairs, as many pass
pub record AreItsGroups (s : Selected) (verdicts : List Verdict) (part : Part) : Type 0 where
  pub whole : are_kept part.rows ≡ true → part.groups ≡ []
  pub stars : All (λ (g : Group). All IsStar g.stars) part.groups
  pub products : All IsGroup part.groups
  pub kept : All (λ (r : Row). IsKeptAt s verdicts r.place) (pairs_in part.groups)
  pub sides : All IsSided part.groups
  pub once : are_kept part.rows ≡ false → (p : Row → Bool) → count_by p (pairs_in part.groups) ≡ count_by p (written_of part.rows)
