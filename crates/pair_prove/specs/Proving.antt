-- What a verdict says of a claim without a word of queries.
use Rattle.std.specs.Prelude.{◌≡◌, ℕ, ◌<◌}
use Rattle.net_model.specs.Judge.{Holds}
use Rattle.net_model.specs.declared.netlist.Design.{Design}
use Rattle.net_model.specs.declared.cycles.Stimulus.{Stimulus}
use Rattle.net_model.specs.declared.claims.Claim.{Claim}
use Rattle.verdicts.specs.Offsets.{HoldsAtOffset}
use Rattle.verdicts.specs.Verdicts.{IsWitness}
use Rattle.verdict_types.specs.declared.outcomes.Proof.{Proof}
use Rattle.verdict_types.specs.declared.outcomes.Verdict.{Verdict}
use Rattle.verdict_types.specs.declared.outcomes.Verdict.TheVariants.{Justified, Refuted}

-- a claim that is justified holds in every run from reset
abbrev pub HoldsWhereJustified : Design → Claim → Verdict → Type 0
HoldsWhereJustified d claim verdict = (proof : Proof) → verdict ≡ Justified proof → Holds d claim

-- the stimulus stands for a run that is violated at the offset, and no run is violated at a smaller one
pub record IsLeastWitness (d : Design) (claim : Claim) (offset : ℕ) (stimulus : Stimulus) : Type 0 where
  pub witness : IsWitness d claim offset stimulus
  pub least : (smaller : ℕ) → smaller < offset → HoldsAtOffset d claim smaller

-- a claim that is refuted is violated by the run of its stimulus, at the least offset of all runs
abbrev pub IsLeastWhereRefuted : Design → Claim → Verdict → Type 0
IsLeastWhereRefuted d claim verdict = (offset : ℕ) (stimulus : Stimulus) → verdict ≡ Refuted offset stimulus → IsLeastWitness d claim offset stimulus
