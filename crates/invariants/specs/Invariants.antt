-- What the set of kept clauses for some claims is.
use Rattle.std.specs.Prelude.{ℕ, List, All}
use Rattle.net_model.specs.declared.netlist.Design.{Design}
use Rattle.net_model.specs.declared.claims.Claim.{Claim}
use Rattle.net_model.specs.declared.invariants.InvClause.{InvClause}
use Rattle.verdicts.specs.Kept.{IsKeptSet}
use Rattle.verdict_types.specs.declared.kept.InvSpent.{InvSpent}
use Rattle.verdict_types.specs.declared.kept.InvSet.{InvSet}
use Rattle.drawn_runs.specs.Drawn.{HoldsDrawn}
use Rattle.inv_candidates.specs.Candidates.{AreCandidates}
use Rattle.inv_candidates.specs.Listing.{AddsNew}

-- a set is kept, with its entries, of the clauses that an induction tries for the claims, and after them of further ones, in their
-- order, each that is not listed yet: the greatest inductive set at the depth of those without an entry; the clause of each entry
-- holds in every live cycle of the drawn runs
pub record AreInvariants (d : Design) (claims : List Claim) (extra : List InvClause) (depth budget : ℕ) (set : InvSet) : Type 0 where
  pub own : List InvClause
  pub of_claims : AreCandidates d claims own
  pub candidates : List InvClause
  pub assisted : AddsNew own extra candidates
  pub kept : IsKeptSet d depth budget candidates set
  pub drawn : All (λ (e : InvSpent). HoldsDrawn d e.clause) set.spent
