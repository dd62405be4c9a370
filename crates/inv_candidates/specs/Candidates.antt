-- The clauses that an induction tries for some claims.
use Rattle.std.specs.Prelude.{◌≡◌, ℕ, ◌<◌, ◌≤◌, ◌⊎◌, List, [], ◌∷◌, length, take, flat_map}
use Rattle.net_model.specs.declared.netlist.Design.{Design}
use Rattle.net_model.specs.declared.claims.Claim.{Claim}
use Rattle.net_model.specs.declared.invariants.InvClause.{InvClause}
use Rattle.verdicts.specs.Verdicts.{IsJudged}
use Rattle.inv_candidates.specs.Near.{IsGroup}
use Rattle.inv_candidates.specs.Clauses.{group_clauses}
use Rattle.inv_candidates.specs.Listing.{AddsNew}

-- the groups of the claims that are judged, in the order of the claims
pub data AreGroups (d : Design) : List Claim → List (List ℕ) → Type 0 where
  No_claims : AreGroups d [] []
  Counts : (claim : Claim) (claims : List Claim) (group : List ℕ) (groups : List (List ℕ)) → IsJudged d claim → IsGroup d claim group
      → AreGroups d claims groups → AreGroups d (claim ∷ claims) (group ∷ groups)
  Skips : (claim : Claim) (claims : List Claim) (groups : List (List ℕ)) → ¬ IsJudged d claim → AreGroups d claims groups
      → AreGroups d (claim ∷ claims) groups

-- the clauses of the groups of some claims, each where it first stands
pub record AreListed (d : Design) (claims : List Claim) (listed : List InvClause) : Type 0 where
  pub groups : List (List ℕ)
  pub of_claims : AreGroups d claims groups
  pub once : AddsNew [] (flat_map group_clauses groups) listed

-- the first 8,192 clauses of the groups of all claims, or all where they are fewer: where those of the first claims are enough, no
-- later claim counts
pub record AreCandidates (d : Design) (claims : List Claim) (clauses : List InvClause) : Type 0 where
  pub count : ℕ
  pub listed : List InvClause
  pub of_first : AreListed d (take count claims) listed
  pub enough : (length claims ≤ count) ⊎ (8192 ≤ length listed)
  pub first : clauses ≡ take 8192 listed

-- what a claim adds: the clauses of its group, where it is judged and the list is not full
pub data AddsClaim (d : Design) (claim : Claim) (old new : List InvClause) : Type 0 where
  Adds_group : (group : List ℕ) → length old < 8192 → IsJudged d claim → IsGroup d claim group → AddsNew old (group_clauses group) new
      → AddsClaim d claim old new
  Adds_none : length old < 8192 → ¬ IsJudged d claim → new ≡ old → AddsClaim d claim old new
  Is_full : 8192 ≤ length old → new ≡ old → AddsClaim d claim old new

-- the list after so many claims
pub record IsListedTo (d : Design) (claims : List Claim) (k : ℕ) (listed : List InvClause) : Type 0 where
  pub count : ℕ
  pub low : count ≤ k
  pub of_first : AreListed d (take count claims) listed
  pub enough : (k ≤ count) ⊎ (8192 ≤ length listed)
