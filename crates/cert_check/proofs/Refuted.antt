-- What a checked derivation says of its query.
use Rattle.std.proofs.Common.{ℕ, List, length, refl, inl, inr}
use Rattle.std.proofs.lemmas.Option.{slice_get_within}
use Rattle.net_model.specs.Queries.{Query}
use Rattle.proof_log.specs.Derivations.{Refutes}
use Rattle.proof_log.specs.declared.derivations.Derivation.{Derivation}
use Rattle.rup_check.specs.Faults.{IsFirstFault}
use Rattle.rup_check.specs.declared.faults.CheckFault.{CheckFault}
use Rattle.cnf_encode.specs.Problems.{IsProblemFor}
use Rattle.cnf_encode.specs.declared.problems.Problem.{Problem}
use Rattle.query_model.specs.declared.keys.Coding.{Coding}
use Rattle.verdicts.specs.Logs.{RefutesQuery, RefuteEach}
use Rattle.cert_defs.specs.Refused.{HasFault, HasFaultIn}
use Rattle.cert_check.specs.Inducting.{AreBasesRefuted, HasBaseFault}

pub refutes_of : (coding : Coding) (q : Query) (problem : Problem) (derivation : Derivation) → IsProblemFor coding q problem
    → Refutes problem.formula derivation
    → RefutesQuery coding q derivation
refutes_of coding q problem derivation is refutes = (problem.formula, (problem.frames, is.clauses), refutes)

pub fault_of : (coding : Coding) (q : Query) (problem : Problem) (derivation : Derivation) (fault : CheckFault) → IsProblemFor coding q problem
    → IsFirstFault problem.formula derivation fault → HasFault coding q derivation fault
fault_of coding q problem derivation fault is first = (problem.formula, (problem.frames, is.clauses), first)

-- all base derivations refute their queries
pub refute_each : (coding : Coding) (query : ℕ → Query) (base : List Derivation) → AreBasesRefuted coding query base (length base)
    → RefuteEach coding query (length base) base
refute_each coding query base all = record { as_many = refl; each = λ k derivation at. all k derivation (slice_get_within base k derivation at) at }

-- a fault of a base derivation, or of the step derivation, is one of all
pub early_fault : (coding : Coding) (base_query : ℕ → Query) (step_query : Query) (base : List Derivation) (step : Derivation) (fault : CheckFault)
    → HasBaseFault coding base_query base fault → HasFaultIn coding base_query step_query base step fault
early_fault coding base_query step_query base step fault it = inl (it.k, it.derivation, it.at, it.has)

pub late_fault : (coding : Coding) (base_query : ℕ → Query) (step_query : Query) (base : List Derivation) (step : Derivation) (fault : CheckFault)
    → HasFault coding step_query step fault → HasFaultIn coding base_query step_query base step fault
late_fault coding base_query step_query base step fault it = inr it
