-- Offsets at which no run is violated, and those at which the step query leaves a claim open.
use Rattle.std.specs.Prelude.{ℕ, ◌+◌, ◌<◌, List}
use Rattle.net_model.specs.Cycles.{IsRun}
use Rattle.net_model.specs.Judge.{IsViolatedAt}
use Rattle.net_model.specs.Queries.{IsAnswer, claim_query}
use Rattle.net_model.specs.declared.netlist.Design.{Design}
use Rattle.net_model.specs.declared.cycles.Cycle.{Cycle}
use Rattle.net_model.specs.declared.claims.Claim.{Claim}
use Rattle.net_model.specs.declared.invariants.InvClause.{InvClause}
use Rattle.net_model.specs.declared.queries.Phase.TheVariants.{Step}

-- no run from reset, of whatever length, is violated where the start toggles so many cycles after the first cycle in which it
-- can
abbrev pub HoldsAtOffset : Design → Claim → ℕ → Type 0
HoldsAtOffset d claim offset = (run : List Cycle) → IsRun d run → ¬ IsViolatedAt d.reset_len d claim run (d.reset_len + 1 + offset)

-- the step query of this depth has an answer: some stretch that meets the kept clauses is violated at this offset, and at
-- none below
abbrev pub IsOpenAt : Design → Claim → List InvClause → ℕ → Type 0
IsOpenAt d claim kept depth = (stretch : List Cycle) × IsAnswer (claim_query d claim Step depth kept) stretch

-- no query below a depth decides the claim: no run is violated there, and each step query has an answer
pub record IsOpenBelow (d : Design) (claim : Claim) (kept : List InvClause) (depth : ℕ) : Type 0 where
  pub holds : (offset : ℕ) → offset < depth → HoldsAtOffset d claim offset
  pub answered : (offset : ℕ) → offset < depth → IsOpenAt d claim kept offset
