-- Derivations that show kept clauses and claims to hold, in either coding, without a word of how they were found.
use Rattle.std.specs.Prelude.{◌≡◌, ◌≢◌, ℕ, ◌<◌, List, length, Contains, Some, slice_get}
use Rattle.net_model.specs.Judge.{judged_count}
use Rattle.net_model.specs.Held.{IsHeldStart}
use Rattle.net_model.specs.Queries.{claim_query, clause_query}
use Rattle.net_model.specs.declared.netlist.Design.{Design}
use Rattle.net_model.specs.declared.claims.Claim.{Claim}
use Rattle.net_model.specs.declared.invariants.InvClause.{InvClause}
use Rattle.net_model.specs.declared.queries.Phase.TheVariants.{Base, Step}
use Rattle.query_model.specs.declared.keys.Coding.{Coding}
use Rattle.verdicts.specs.Logs.{RefutesQuery, RefuteEach}
use Rattle.verdict_types.specs.declared.kept.InvProof.{InvProof}
use Rattle.verdict_types.specs.declared.outcomes.Proof.{Proof}
use Rattle.verdict_types.specs.declared.outcomes.Proof.TheVariants.{Single, Fixed, Depth}

-- the derivations refute the base queries of a kept clause below the depth, and its step query against all kept clauses
pub record ProvesClause (coding : Coding) (d : Design) (kept : List InvClause) (depth : ℕ) (clause : InvClause) (proof : InvProof) : Type 0 where
  pub base : RefuteEach coding (λ offset. clause_query d kept clause Base offset) depth proof.base
  pub step : RefutesQuery coding (clause_query d kept clause Step depth) proof.step

-- each kept clause has its derivations, at its place; at depth 0 there is none
pub record ProveKept (coding : Coding) (d : Design) (kept : List InvClause) (depth : ℕ) (proofs : List InvProof) : Type 0 where
  pub deep : (clause : InvClause) → Contains kept clause → 0 < depth
  pub as_many : length proofs ≡ length kept
  pub each : (place : ℕ) (clause : InvClause) (proof : InvProof) → slice_get kept place ≡ Some clause → slice_get proofs place ≡ Some proof
      → ProvesClause coding d kept depth clause proof

-- the claim judges nothing; or it does, and its start never toggles, or the derivations refute the base queries below a depth and
-- the step query of that depth
abbrev pub ProvesPair : Coding → Design → List InvClause → Claim → Proof → Type 0
ProvesPair coding d kept claim Single = judged_count claim ≡ 0
ProvesPair coding d kept claim Fixed = (judged_count claim ≢ 0) × IsHeldStart d claim.start
ProvesPair coding d kept claim (Depth depth base step) =
    (judged_count claim ≢ 0) × RefuteEach coding (λ offset. claim_query d claim Base offset kept) depth base
    × RefutesQuery coding (claim_query d claim Step depth kept) step
