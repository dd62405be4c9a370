-- Derivations, verdicts and kept clauses in form: what the text of a certificate can spell.
use Rattle.std.specs.Prelude.{◌≡◌, ℕ, ◌+◌, ◌-◌, ◌^◌, ◌<◌, ◌≤◌, List, [], ◌∷◌, length, All}
use Rattle.net_model.specs.declared.invariants.StateLit.{StateLit}
use Rattle.net_model.specs.declared.invariants.InvClause.{InvClause}
use Rattle.proof_log.specs.Literals.{InVars}
use Rattle.proof_log.specs.Clauses.{IsNormal}
use Rattle.proof_log.specs.declared.derivations.DerivStep.{DerivStep}
use Rattle.proof_log.specs.declared.derivations.Derivation.{Derivation}
use Rattle.verdict_types.specs.declared.kept.InvProof.{InvProof}
use Rattle.verdict_types.specs.declared.kept.InvSet.{InvSet}
use Rattle.verdict_types.specs.declared.outcomes.Proof.{Proof}
use Rattle.verdict_types.specs.declared.outcomes.Proof.TheVariants.{Single, Fixed, Depth}
use Rattle.verdict_types.specs.declared.outcomes.Verdict.{Verdict}
use Rattle.verdict_types.specs.declared.outcomes.Verdict.TheVariants.{Justified, Refuted, Undecided}

-- the clause of a step is in normal form, over variables from 1 and below 2^31, and its hints count from 1
pub record IsStepInForm (step : DerivStep) : Type 0 where
  pub normal : IsNormal step.clause
  pub in_vars : All (InVars (2 ^ 31 - 1)) step.clause
  pub hints : All (λ h. 1 ≤ h) step.hints

-- there are fewer than 2^63 steps, each of them in form
pub record IsInForm (derivation : Derivation) : Type 0 where
  pub few : length derivation.steps < 2 ^ 63
  pub steps : All IsStepInForm derivation.steps

-- there are as many base derivations as the depth says, and they and the step derivation are in form
pub record AreInForm (depth : ℕ) (base : List Derivation) (last : Derivation) : Type 0 where
  pub as_many : length base ≡ depth
  pub bases : All IsInForm base
  pub step : IsInForm last

-- where derivations show it, the depth is at most 64, and they are in form
abbrev pub IsProofInForm : Proof → Type 0
IsProofInForm Single = Unit {0}
IsProofInForm Fixed = Unit {0}
IsProofInForm (Depth depth base step) = (depth ≤ 64) × AreInForm depth base step

-- the proof of a claim that is justified is in form
abbrev pub IsVerdictInForm : Verdict → Type 0
IsVerdictInForm (Justified proof) = IsProofInForm proof
IsVerdictInForm (Refuted offset stimulus) = Unit {0}
IsVerdictInForm (Undecided cause) = Unit {0}

-- each literal's register is above that of the literal before it
abbrev pub AreAscending : List StateLit → Type 0
AreAscending [] = Unit {0}
AreAscending (l ∷ []) = Unit {0}
AreAscending (l ∷ (m ∷ more)) = (l.reg < m.reg) × AreAscending (m ∷ more)

-- a literal at least, whose registers ascend and, counted from 1, are below 2^31
pub record IsKeptClause (clause : InvClause) : Type 0 where
  pub some : 0 < length clause.lits
  pub ascend : AreAscending clause.lits
  pub small : All (λ (l : StateLit). l.reg + 1 < 2 ^ 31) clause.lits

-- the depth is at most 8, and nothing is kept at depth 0; there are fewer than 2^63 kept clauses, each in form and with its
-- derivations
pub record IsSetInForm (set : InvSet) : Type 0 where
  pub low : set.depth ≤ 8
  pub none : set.depth ≡ 0 → set.kept ≡ []
  pub few : length set.kept < 2 ^ 63
  pub clauses : All IsKeptClause set.kept
  pub as_many : length set.proofs ≡ length set.kept
  pub each : All (λ (p : InvProof). AreInForm set.depth p.base p.step) set.proofs
