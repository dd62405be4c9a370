-- Why a certificate is refused, in the order in which the causes are looked for. Each later one is told only where there is none
-- of the earlier; which of several of one kind is told is left open.
use Rattle.std.specs.Prelude.{◌≡◌, ℕ, ◌<◌, ◌⊎◌, Some, List, All, Contains, slice_get}
use Rattle.net_model.specs.Queries.{Query, claim_query, clause_query}
use Rattle.net_model.specs.declared.netlist.Design.{Design}
use Rattle.net_model.specs.declared.claims.Claim.{Claim}
use Rattle.net_model.specs.declared.invariants.InvClause.{InvClause}
use Rattle.net_model.specs.declared.queries.Phase.TheVariants.{Base, Step}
use Rattle.net_model.specs.Fits.{NamesRegs}
use Rattle.query_model.specs.declared.keys.Coding.{Coding}
use Rattle.proof_log.specs.declared.formulas.Formula.{Formula}
use Rattle.proof_log.specs.declared.derivations.Derivation.{Derivation}
use Rattle.rup_check.specs.Faults.{IsFirstFault}
use Rattle.rup_check.specs.declared.faults.CheckFault.{CheckFault}
use Rattle.verdicts.specs.Logs.{IsFormulaFor}
use Rattle.verdicts.specs.Certified.{ProveKept}
use Rattle.verdict_types.specs.declared.kept.InvProof.{InvProof}
use Rattle.verdict_types.specs.declared.outcomes.Proof.{Proof}
use Rattle.verdict_types.specs.declared.outcomes.Proof.TheVariants.{Single, Fixed, Depth}
use Rattle.cert_values.specs.Certs.{listed_numbers}
use Rattle.cert_values.specs.declared.certs.PairProof.{PairProof}
use Rattle.cert_values.specs.declared.certs.Cert.{Cert}
use Rattle.cert_values.specs.declared.faults.CertFault.{CertFault}
use Rattle.cert_values.specs.declared.faults.CertFault.TheVariants.{Form, Version, UnknownRegister, UnknownPair, TwicePair, NotTrivial, Invariant, Pair, Memory}
use Rattle.cert_defs.specs.Listed.{item_numbered, IsClaimNumber, AreDistinct, IsListed, Suits, IsWellListed}

-- the kept clause of that number names a register that the design does not have
abbrev pub LacksRegister : Design → List InvClause → ℕ → Type 0
LacksRegister d kept place = (clause : InvClause) × (item_numbered kept place ≡ Some clause) × ¬ NamesRegs d clause

-- a number is listed that is no claim's
pub record ListsUnknown (claims : List Claim) (numbers : List ℕ) (number : ℕ) : Type 0 where
  pub listed : Contains numbers number
  pub unknown : ¬ IsClaimNumber claims number

-- a number is listed at two places
pub record ListsTwice (numbers : List ℕ) (number : ℕ) : Type 0 where
  pub first : ℕ
  pub second : ℕ
  pub apart : first < second
  pub here : slice_get numbers first ≡ Some number
  pub again : slice_get numbers second ≡ Some number

-- a pair of that number is listed, and what is told of its claim is not of its kind
pub record ListsUnsuited (d : Design) (claims : List Claim) (pairs : List PairProof) (number : ℕ) : Type 0 where
  pub pair : PairProof
  pub claim : Claim
  pub listed : IsListed claims pairs pair claim
  pub number_is : pair.number ≡ number
  pub unsuited : ¬ Suits d claim pair.proof

-- the derivation does not refute the query's formula, for this first fault
abbrev pub HasFault : Coding → Query → Derivation → CheckFault → Type 0
HasFault coding q derivation fault = (formula : Formula) × IsFormulaFor coding q formula × IsFirstFault formula derivation fault

-- some base derivation has the fault, at the query of its number from 0, or the step derivation has it
abbrev pub HasFaultIn : Coding → (ℕ → Query) → Query → List Derivation → Derivation → CheckFault → Type 0
HasFaultIn coding base_query step_query base step fault =
    ((k : ℕ) × (derivation : Derivation) × (slice_get base k ≡ Some derivation) × HasFault coding (base_query k) derivation fault)
    ⊎ HasFault coding step_query step fault

-- a derivation of the kept clause of that number has the fault
pub record HasClauseFault (coding : Coding) (d : Design) (cert : Cert) (place : ℕ) (fault : CheckFault) : Type 0 where
  pub clause : InvClause
  pub proof : InvProof
  pub clause_at : item_numbered cert.kept place ≡ Some clause
  pub proof_at : item_numbered cert.proofs place ≡ Some proof
  pub has : HasFaultIn coding (λ offset. clause_query d cert.kept clause Base offset)
      (clause_query d cert.kept clause Step cert.depth) proof.base proof.step fault

-- a derivation of what is told of a claim has the fault
abbrev pub HasProofFault : Coding → Design → List InvClause → Claim → Proof → CheckFault → Type 0
HasProofFault coding d kept claim Single fault = ⊥
HasProofFault coding d kept claim Fixed fault = ⊥
HasProofFault coding d kept claim (Depth depth base step) fault =
    HasFaultIn coding (λ offset. claim_query d claim Base offset kept) (claim_query d claim Step depth kept) base step fault

-- a derivation of a listed pair of that number has the fault
pub record HasPairFault (coding : Coding) (d : Design) (claims : List Claim) (cert : Cert) (number : ℕ) (fault : CheckFault) : Type 0 where
  pub pair : PairProof
  pub claim : Claim
  pub listed : IsListed claims cert.pairs pair claim
  pub number_is : pair.number ≡ number
  pub has : HasProofFault coding d cert.kept claim pair.proof fault

-- the causes, in order: a register, a number, a number twice, a kind, a derivation of a kept clause, and one of a pair. Want of
-- memory is free; the other faults are of texts alone
abbrev pub IsCause : Coding → Design → List Claim → Cert → CertFault → Type 0
IsCause coding d claims cert (Form offset) = ⊥
IsCause coding d claims cert (Version number) = ⊥
IsCause coding d claims cert (UnknownRegister place) = LacksRegister d cert.kept place
IsCause coding d claims cert (UnknownPair number) = All (NamesRegs d) cert.kept × ListsUnknown claims (listed_numbers cert.pairs) number
IsCause coding d claims cert (TwicePair number) =
    All (NamesRegs d) cert.kept × All (IsClaimNumber claims) (listed_numbers cert.pairs) × ListsTwice (listed_numbers cert.pairs) number
IsCause coding d claims cert (NotTrivial number) =
    All (NamesRegs d) cert.kept × All (IsClaimNumber claims) (listed_numbers cert.pairs) × AreDistinct (listed_numbers cert.pairs)
    × ListsUnsuited d claims cert.pairs number
IsCause coding d claims cert (Invariant place fault) = IsWellListed d claims cert × HasClauseFault coding d cert place fault
IsCause coding d claims cert (Pair number fault) =
    IsWellListed d claims cert × ProveKept coding d cert.kept cert.depth cert.proofs × HasPairFault coding d claims cert number fault
IsCause coding d claims cert Memory = Unit {0}
