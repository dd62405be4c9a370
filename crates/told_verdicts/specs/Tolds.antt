-- The verdicts that are told, and what each of them says.
use Rattle.std.specs.Prelude.{◌≡◌, ℕ, ◌+◌, List, length, Some, slice_get, ◌⊎◌}
use Rattle.net_model.specs.declared.netlist.Design.{Design}
use Rattle.net_model.specs.declared.cycles.Stimulus.{Stimulus}
use Rattle.net_model.specs.declared.claims.Claim.{Claim}
use Rattle.net_model.specs.declared.invariants.InvClause.{InvClause}
use Rattle.firm_runs.specs.Frees.{LeavesOpen}
use Rattle.firm_runs.specs.Firm.{IsFirm, IsShownFirm}
use Rattle.firm_runs.specs.declared.free_bits.FreeBits.{FreeBits}
use Rattle.verdicts.specs.Verdicts.{IsRight, IsWitness}
use Rattle.verdict_types.specs.declared.outcomes.Limits.{Limits}
use Rattle.verdict_types.specs.declared.outcomes.Cause.TheVariants.{Depth as Stays, Budget, Free, Cut}
use Rattle.verdict_types.specs.declared.outcomes.Verdict.{Verdict}
use Rattle.verdict_types.specs.declared.outcomes.Verdict.TheVariants.{Justified, Refuted, Undecided}

-- a refutation stands: nothing is left open in the design, or the violation is shown firm
abbrev pub Stands : Design → FreeBits → Claim → ℕ → Stimulus → Type 0
Stands d free claim offset s = (¬ LeavesOpen d free) ⊎ IsShownFirm d free claim s (d.reset_len + 1 + offset)

-- what is told of a verdict: itself, but of a refutation that does not stand, that it is undecided for free inputs
abbrev pub IsToldOf : Design → FreeBits → Claim → Verdict → Verdict → Type 0
IsToldOf d free claim (Justified proof) told = told ≡ Justified proof
IsToldOf d free claim (Undecided cause) told = told ≡ Undecided cause
IsToldOf d free claim (Refuted offset s) told =
    (Stands d free claim offset s × (told ≡ Refuted offset s)) ⊎ ((¬ Stands d free claim offset s) × (told ≡ Undecided (Free offset s)))

-- the verdict on each claim is told
pub record AreTold (d : Design) (free : FreeBits) (claims : List Claim) (verdicts told : List Verdict) : Type 0 where
  pub as_many : length told ≡ length verdicts
  pub each : (place : ℕ) (claim : Claim) (verdict said : Verdict) → slice_get claims place ≡ Some claim → slice_get verdicts place ≡ Some verdict
      → slice_get told place ≡ Some said → IsToldOf d free claim verdict said

-- where the verdict is a refutation, its stimulus is a witness
abbrev pub IsWitnessed : Design → Claim → Verdict → Type 0
IsWitnessed d claim verdict = (offset : ℕ) (s : Stimulus) → verdict ≡ Refuted offset s → IsWitness d claim offset s

-- so for each claim
abbrev pub AreWitnessed : Design → List Claim → List Verdict → Type 0
AreWitnessed d claims verdicts =
    (place : ℕ) (claim : Claim) (verdict : Verdict) → slice_get claims place ≡ Some claim → slice_get verdicts place ≡ Some verdict
    → IsWitnessed d claim verdict

-- what is told is right, given the kept clauses and the limits. A refutation is right and firm. Undecided for free inputs is told of
-- a right refutation that is not shown firm, of a design in which something is left open. All else is right as it is judged
abbrev pub IsRightTold : Design → FreeBits → Claim → List InvClause → Limits → Verdict → Type 0
IsRightTold d free claim kept limits (Justified proof) = IsRight d claim kept limits (Justified proof)
IsRightTold d free claim kept limits (Refuted offset s) =
    IsRight d claim kept limits (Refuted offset s) × IsFirm d free claim s (d.reset_len + 1 + offset)
IsRightTold d free claim kept limits (Undecided Stays) = IsRight d claim kept limits (Undecided Stays)
IsRightTold d free claim kept limits (Undecided (Budget phase depth log)) = IsRight d claim kept limits (Undecided (Budget phase depth log))
IsRightTold d free claim kept limits (Undecided Cut) = ⊥
IsRightTold d free claim kept limits (Undecided (Free offset s)) =
    IsRight d claim kept limits (Refuted offset s) × LeavesOpen d free × (¬ IsShownFirm d free claim s (d.reset_len + 1 + offset))

-- each told verdict is right, where the judged one is, whatever clauses are kept and whatever the limits are
abbrev pub AreRightTold : Design → FreeBits → List Claim → List Verdict → List Verdict → Type 0
AreRightTold d free claims verdicts told =
    (place : ℕ) (claim : Claim) (verdict said : Verdict) (kept : List InvClause) (limits : Limits) → slice_get claims place ≡ Some claim
    → slice_get verdicts place ≡ Some verdict → slice_get told place ≡ Some said → IsRight d claim kept limits verdict
    → IsRightTold d free claim kept limits said
