-- What a verdict says of a claim.
use Rattle.std.specs.Prelude.{◌≡◌, ◌≢◌, ℕ, ◌+◌, ◌≤◌, List, length}
use Rattle.net_model.specs.Judge.{judged_count}
use Rattle.net_model.specs.Cycles.{IsRun}
use Rattle.net_model.specs.Held.{IsHeldStart}
use Rattle.net_model.specs.Judge.{IsViolatedAt}
use Rattle.net_model.specs.Queries.{IsAnswer, claim_query}
use Rattle.net_model.specs.Stimuli.{StandsFor}
use Rattle.net_model.specs.declared.netlist.Design.{Design}
use Rattle.net_model.specs.declared.cycles.Cycle.{Cycle}
use Rattle.net_model.specs.declared.cycles.Stimulus.{Stimulus}
use Rattle.net_model.specs.declared.claims.Claim.{Claim}
use Rattle.net_model.specs.declared.invariants.InvClause.{InvClause}
use Rattle.net_model.specs.declared.queries.Phase.{Phase}
use Rattle.net_model.specs.declared.queries.Phase.TheVariants.{Base, Step}
use Rattle.proof_log.specs.declared.derivations.Derivation.{Derivation}
use Rattle.verdicts.specs.Offsets.{HoldsAtOffset, IsOpenAt, IsOpenBelow}
use Rattle.verdicts.specs.Logs.{own_coding, RefutesQuery, RefuteEach, IsSpentOn}
use Rattle.verdict_types.specs.declared.outcomes.Limits.{Limits}
use Rattle.verdict_types.specs.declared.outcomes.Proof.{Proof}
use Rattle.verdict_types.specs.declared.outcomes.Proof.TheVariants.{Single, Fixed, Depth}
use Rattle.verdict_types.specs.declared.outcomes.Cause.{Cause}
use Rattle.verdict_types.specs.declared.outcomes.Cause.TheVariants.{Depth as Stays, Budget, Free, Cut}
use Rattle.verdict_types.specs.declared.outcomes.Verdict.{Verdict}
use Rattle.verdict_types.specs.declared.outcomes.Verdict.TheVariants.{Justified, Refuted, Undecided}

-- a claim about which queries are asked: it judges a capture, and its start is neither a fixed nor a reset input
pub record IsJudged (d : Design) (claim : Claim) : Type 0 where
  pub captures : judged_count claim ≢ 0
  pub free : ¬ IsHeldStart d claim.start

-- the queries of the smaller depths leave the claim open, and this depth is allowed
pub record IsReached (d : Design) (claim : Claim) (kept : List InvClause) (limit depth : ℕ) : Type 0 where
  pub judged : IsJudged d claim
  pub allowed : depth ≤ limit
  pub open_ : IsOpenBelow d claim kept depth

-- no stretch answers the step query of this depth, and the derivations refute the formulas of the queries up to it
pub record IsDepthProof (d : Design) (claim : Claim) (kept : List InvClause) (depth : ℕ) (base : List Derivation) (step : Derivation) : Type 0 where
  pub none : (stretch : List Cycle) → ¬ IsAnswer (claim_query d claim Step depth kept) stretch
  pub base_refuted : RefuteEach own_coding (λ offset. claim_query d claim Base offset kept) depth base
  pub step_refuted : RefutesQuery own_coding (claim_query d claim Step depth kept) step

-- the claim judges nothing; or it does and its start never toggles; or it is justified at this depth
abbrev pub IsRightProof : Design → Claim → List InvClause → Limits → Proof → Type 0
IsRightProof d claim kept limits Single = judged_count claim ≡ 0
IsRightProof d claim kept limits Fixed = (judged_count claim ≢ 0) × IsHeldStart d claim.start
IsRightProof d claim kept limits (Depth depth base step) =
    IsReached d claim kept limits.depth depth × IsDepthProof d claim kept depth base step

-- the stimulus stands for a run that ends with the last capture judged at an offset, and is violated there
pub record IsWitness (d : Design) (claim : Claim) (offset : ℕ) (stimulus : Stimulus) : Type 0 where
  pub run : List Cycle
  pub from_reset : IsRun d run
  pub stands : StandsFor stimulus run
  pub long : length run ≡ d.reset_len + offset + 1 + judged_count claim
  pub violated : IsViolatedAt d.reset_len d claim run (d.reset_len + 1 + offset)

-- what is known of the offset whose query spends the budget: in the step phase no run is violated there
abbrev pub HoldsBefore : Design → Claim → Phase → ℕ → Type 0
HoldsBefore d claim Base depth = Unit {0}
HoldsBefore d claim Step depth = HoldsAtOffset d claim depth

-- no run is violated up to the greatest depth, and its step query has an answer; or the log spends the budget on a query of the
-- depth that is reached. No claim is told to be open for free inputs or cut cells
abbrev pub IsRightCause : Design → Claim → List InvClause → Limits → Cause → Type 0
IsRightCause d claim kept limits Stays =
    IsReached d claim kept limits.depth limits.depth × HoldsAtOffset d claim limits.depth × IsOpenAt d claim kept limits.depth
IsRightCause d claim kept limits (Budget phase depth log) =
    IsReached d claim kept limits.depth depth × HoldsBefore d claim phase depth
    × IsSpentOn own_coding (claim_query d claim phase depth kept) limits.budget log
IsRightCause d claim kept limits (Free offset stimulus) = ⊥
IsRightCause d claim kept limits Cut = ⊥

-- the verdict is right for the claim, given the kept clauses and the limits; a refuted offset is the least of all runs
abbrev pub IsRight : Design → Claim → List InvClause → Limits → Verdict → Type 0
IsRight d claim kept limits (Justified proof) = IsRightProof d claim kept limits proof
IsRight d claim kept limits (Refuted offset stimulus) = IsReached d claim kept limits.depth offset × IsWitness d claim offset stimulus
IsRight d claim kept limits (Undecided cause) = IsRightCause d claim kept limits cause
