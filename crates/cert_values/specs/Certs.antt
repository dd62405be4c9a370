-- Certificates that have all their derivations, and the one that is made of what was found.
use Rattle.std.specs.Prelude.{◌≡◌, ℕ, ◌+◌, ◌≤◌, List, [], ◌∷◌, length, map, All}
use Rattle.verdict_types.specs.declared.kept.InvProof.{InvProof}
use Rattle.verdict_types.specs.declared.kept.InvSet.{InvSet}
use Rattle.verdict_types.specs.declared.outcomes.Proof.{Proof}
use Rattle.verdict_types.specs.declared.outcomes.Proof.TheVariants.{Single, Fixed, Depth}
use Rattle.verdict_types.specs.declared.outcomes.Verdict.{Verdict}
use Rattle.verdict_types.specs.declared.outcomes.Verdict.TheVariants.{Justified, Refuted, Undecided}
use Rattle.cert_values.specs.declared.certs.PairProof.{PairProof}
use Rattle.cert_values.specs.declared.certs.Cert.{Cert}
use Rattle.cert_values.specs.Versions.{version_for}

-- a proof at a depth has a base derivation for each smaller one, and the depth is at most 64
abbrev pub HasBases : Proof → Type 0
HasBases Single = Unit {0}
HasBases Fixed = Unit {0}
HasBases (Depth depth base step) = (depth ≤ 64) × (length base ≡ depth)

-- each kept clause has its derivations, a base derivation for each depth below the certificate's, and so has each pair; at depth 0
-- nothing is kept
pub record IsComplete (cert : Cert) : Type 0 where
  pub few : cert.depth ≤ 8
  pub none : cert.depth ≡ 0 → cert.kept ≡ []
  pub as_many : length cert.proofs ≡ length cert.kept
  pub bases : All (λ (p : InvProof). length p.base ≡ cert.depth) cert.proofs
  pub pairs : All (λ (p : PairProof). HasBases p.proof) cert.pairs

-- the numbers of the pairs that are listed, in their order
abbrev pub listed_numbers : List PairProof → List ℕ
listed_numbers pairs = map (λ (p : PairProof). p.number) pairs

-- the claims that are justified, with their numbers, which count from the one given
abbrev pub justified_from : ℕ → List Verdict → List PairProof
justified_from number [] = []
justified_from number (Justified proof ∷ verdicts) = record { number = number; proof = proof } ∷ justified_from (number + 1) verdicts
justified_from number (Refuted offset stimulus ∷ verdicts) = justified_from (number + 1) verdicts
justified_from number (Undecided cause ∷ verdicts) = justified_from (number + 1) verdicts

-- the certificate of a set of kept clauses and of verdicts, in the version that is written: all that is kept, and the claims that are
-- justified
abbrev pub cert_of : InvSet → List Verdict → Cert
cert_of inv verdicts =
    record { version = version_for inv.kept; depth = inv.depth; kept = inv.kept; proofs = inv.proofs; pairs = justified_from 1 verdicts }
