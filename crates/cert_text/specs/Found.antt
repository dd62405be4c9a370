-- Derivations that were found, as they are written.
use Rattle.std.specs.Prelude.{◌<◌, ◌^◌, List, All}
use Rattle.proof_log.specs.declared.derivations.DerivStep.{DerivStep}
use Rattle.proof_log.specs.declared.derivations.Derivation.{Derivation}
use Rattle.verdict_types.specs.Forms.{IsInForm}
use Rattle.verdict_types.specs.declared.kept.InvProof.{InvProof}
use Rattle.verdict_types.specs.declared.outcomes.Proof.{Proof}
use Rattle.verdict_types.specs.declared.outcomes.Proof.TheVariants.{Single, Fixed, Depth}
use Rattle.cert_values.specs.declared.certs.PairProof.{PairProof}
use Rattle.cert_values.specs.declared.certs.Cert.{Cert}
use Rattle.cert_lines.specs.Derivations.{IsWritable}

-- the hints are below 2^63
abbrev pub HasSmallHints : DerivStep → Type 0
HasSmallHints step = All (λ h. h < 2 ^ 63) step.hints

-- the derivations are in form
abbrev pub IsProofFound : InvProof → Type 0
IsProofFound p = All IsInForm p.base × IsInForm p.step

-- the derivations can be written
abbrev pub IsProofWritable : InvProof → Type 0
IsProofWritable p = All IsWritable p.base × IsWritable p.step

-- the hints of each step are below 2^63
abbrev pub HaveSmallHints : Derivation → Type 0
HaveSmallHints d = All HasSmallHints d.steps

-- so are those of base derivations and a step derivation
abbrev pub HintSmall : List Derivation → Derivation → Type 0
HintSmall base step = All HaveSmallHints base × HaveSmallHints step

-- so are those of what is told of a claim
abbrev pub TellsSmallHints : Proof → Type 0
TellsSmallHints Single = Unit {0}
TellsSmallHints Fixed = Unit {0}
TellsSmallHints (Depth depth base step) = HintSmall base step

-- no hint of the certificate is from 2^63 on
pub record HasOnlySmallHints (c : Cert) : Type 0 where
  pub kept : All (λ (p : InvProof). HintSmall p.base p.step) c.proofs
  pub pairs : All (λ (p : PairProof). TellsSmallHints p.proof) c.pairs
