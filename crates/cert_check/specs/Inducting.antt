-- What is known of base derivations, as far as they are looked at.
use Rattle.std.specs.Prelude.{◌≡◌, ℕ, ◌<◌, Some, List, slice_get}
use Rattle.net_model.specs.Queries.{Query}
use Rattle.proof_log.specs.declared.derivations.Derivation.{Derivation}
use Rattle.rup_check.specs.declared.faults.CheckFault.{CheckFault}
use Rattle.query_model.specs.declared.keys.Coding.{Coding}
use Rattle.verdicts.specs.Logs.{RefutesQuery}
use Rattle.cert_defs.specs.Refused.{HasFault}

-- the first derivations, so many of them, refute the queries of their numbers, from 0
abbrev pub AreBasesRefuted : Coding → (ℕ → Query) → List Derivation → ℕ → Type 0
AreBasesRefuted coding query base count =
    (k : ℕ) (derivation : Derivation) → k < count → slice_get base k ≡ Some derivation → RefutesQuery coding (query k) derivation

-- a derivation has the fault, at the query of its number
pub record HasBaseFault (coding : Coding) (query : ℕ → Query) (base : List Derivation) (fault : CheckFault) : Type 0 where
  pub k : ℕ
  pub derivation : Derivation
  pub at : slice_get base k ≡ Some derivation
  pub has : HasFault coding (query k) derivation fault
