-- When a certificate is accepted, and with which list of claims.
use Rattle.std.specs.Prelude.{◌≡◌, ◌↔◌, ℕ, ◌+◌, ◌≤◌, Some, List, [], ◌∷◌, length, Contains, slice_get}
use Rattle.net_model.specs.Judge.{Holds}
use Rattle.net_model.specs.declared.netlist.Design.{Design}
use Rattle.net_model.specs.declared.claims.Claim.{Claim}
use Rattle.net_model.specs.declared.invariants.InvClause.{InvClause}
use Rattle.query_model.specs.declared.keys.Coding.{Coding}
use Rattle.verdicts.specs.Verdicts.{IsRight}
use Rattle.verdicts.specs.Certified.{ProveKept, ProvesPair}
use Rattle.verdict_types.specs.declared.outcomes.Limits.{Limits}
use Rattle.verdict_types.specs.declared.outcomes.Verdict.{Verdict}
use Rattle.cert_values.specs.Certs.{listed_numbers, justified_from}
use Rattle.cert_values.specs.declared.certs.PairProof.{PairProof}
use Rattle.cert_values.specs.declared.certs.Cert.{Cert}
use Rattle.cert_defs.specs.Listed.{item_numbered, IsListed, IsWellListed}

-- what is told of each listed pair proves its claim, with the kept clauses
abbrev pub AreProved : Coding → Design → List Claim → Cert → Type 0
AreProved coding d claims cert =
    (pair : PairProof) (claim : Claim) → IsListed claims cert.pairs pair claim → ProvesPair coding d cert.kept claim pair.proof

-- the certificate lists well, the derivations of each kept clause refute its queries against all kept clauses, and each listed claim
-- is proved with them
pub record IsAccepted (coding : Coding) (d : Design) (claims : List Claim) (cert : Cert) : Type 0 where
  pub listed : IsWellListed d claims cert
  pub kept : ProveKept coding d cert.kept cert.depth cert.proofs
  pub proved : AreProved coding d claims cert

-- the numbers ascend, the first of them no smaller than the one given
abbrev pub AscendFrom : ℕ → List ℕ → Type 0
AscendFrom least [] = Unit {0}
AscendFrom least (number ∷ numbers) = (least ≤ number) × AscendFrom (number + 1) numbers

-- the listed numbers, ascending
pub record AreListed (pairs : List PairProof) (numbers : List ℕ) : Type 0 where
  pub ascending : AscendFrom 1 numbers
  pub same : (number : ℕ) → Contains numbers number ↔ Contains (listed_numbers pairs) number

-- the certificate is accepted with this list
pub record Accepts (coding : Coding) (d : Design) (claims : List Claim) (cert : Cert) (numbers : List ℕ) : Type 0 where
  pub accepted : IsAccepted coding d claims cert
  pub numbers_are : AreListed cert.pairs numbers

-- each claim of these numbers holds in every run from reset
abbrev pub HoldEach : Design → List Claim → List ℕ → Type 0
HoldEach d claims numbers = (number : ℕ) (claim : Claim) → Contains numbers number → item_numbered claims number ≡ Some claim → Holds d claim

-- each claim has its verdict, which is right
pub record AreRightVerdicts (d : Design) (claims : List Claim) (kept : List InvClause) (limits : Limits) (verdicts : List Verdict) : Type 0 where
  pub as_many : length verdicts ≡ length claims
  pub each : (place : ℕ) (claim : Claim) (verdict : Verdict) → slice_get claims place ≡ Some claim → slice_get verdicts place ≡ Some verdict
      → IsRight d claim kept limits verdict

-- the numbers of the claims that are justified
abbrev pub justified_numbers : List Verdict → List ℕ
justified_numbers verdicts = listed_numbers (justified_from 1 verdicts)
