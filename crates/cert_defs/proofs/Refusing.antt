-- A certificate with a cause to refuse it is not accepted.
use Rattle.std.proofs.Common.{◌≡◌, ◌≢◌, ℕ, zero, suc, Some, List, [], refl, subst, sym, inl, inr, arith}
use Rattle.std.proofs.lemmas.List.Elements.{All-contains}
use Rattle.net_model.specs.Netlist.{IsSound}
use Rattle.net_model.specs.Queries.{Query, claim_query, clause_query}
use Rattle.net_model.specs.declared.netlist.Design.{Design}
use Rattle.net_model.specs.declared.claims.Claim.{Claim}
use Rattle.net_model.specs.declared.invariants.InvClause.{InvClause}
use Rattle.net_model.specs.declared.queries.Phase.TheVariants.{Base, Step}
use Rattle.net_model.specs.Fits.{NamesRegs}
use Rattle.query_laws.proofs.OneProblem.{one_problem}
use Rattle.query_model.specs.declared.keys.Coding.{Coding}
use Rattle.proof_log.specs.Derivations.{AllFollow}
use Rattle.proof_log.specs.declared.derivations.Derivation.{Derivation}
use Rattle.rup_check.proofs.NoFault.{not_refuted}
use Rattle.rup_check.specs.declared.faults.CheckFault.{CheckFault}
use Rattle.verdicts.specs.Logs.{RefutesQuery, RefuteEach}
use Rattle.verdicts.specs.Certified.{ProvesClause, ProveKept, ProvesPair}
use Rattle.verdict_types.specs.declared.kept.InvProof.{InvProof}
use Rattle.verdict_types.specs.declared.outcomes.Proof.{Proof}
use Rattle.verdict_types.specs.declared.outcomes.Proof.TheVariants.{Single, Fixed, Depth}
use Rattle.cert_values.specs.Certs.{listed_numbers}
use Rattle.cert_values.specs.declared.certs.Cert.{Cert}
use Rattle.cert_values.specs.declared.faults.CertFault.{CertFault}
use Rattle.cert_values.specs.declared.faults.CertFault.TheVariants.{Form, Version, UnknownRegister, UnknownPair, TwicePair, NotTrivial, Invariant, Pair, Memory}
use Rattle.cert_defs.specs.Listed.{item_numbered, IsClaimNumber, AreDistinct}
use Rattle.cert_defs.specs.Accepted.{IsAccepted}
use Rattle.cert_defs.specs.Refused.{ListsTwice, HasFault, HasFaultIn, HasProofFault, IsCause}
use Rattle.cert_defs.proofs.Holding.{All-numbered}

-- a query has one formula, so a derivation with a fault over it does not refute it
pub fault_excludes : (coding : Coding) (q : Query) (derivation : Derivation) (fault : CheckFault) → IsSound q.design → HasFault coding q derivation fault
    → RefutesQuery coding q derivation → ⊥
fault_excludes coding q derivation fault sound has refutes =
    let same = one_problem coding q sound has.1.0 refutes.1.0 has.0.vars refutes.0.vars has.0.clauses refutes.0.clauses has.1.1 refutes.1.1 in
    not_refuted has.0 derivation fault has.2
    (subst (λ (clauses : List (List ℕ)). AllFollow clauses [] derivation.steps) (sym same.2) refutes.2.0, refutes.2.1)

-- the same of base derivations and a step derivation
fault_in_excludes : (coding : Coding) (base_query : ℕ → Query) (step_query : Query) (count : ℕ) (base : List Derivation) (step : Derivation)
    (fault : CheckFault) → ((k : ℕ) → IsSound (base_query k).design) → IsSound step_query.design → RefuteEach coding base_query count base
    → RefutesQuery coding step_query step → HasFaultIn coding base_query step_query base step fault → ⊥
fault_in_excludes coding base_query step_query count base step fault base_sound step_sound all last (inl early) =
    fault_excludes coding (base_query early.0) early.1 fault (base_sound early.0) early.3 (all.each early.0 early.1 early.2)
fault_in_excludes coding base_query step_query count base step fault base_sound step_sound all last (inr late) =
    fault_excludes coding step_query step fault step_sound late last

clause_excludes : (coding : Coding) (d : Design) (kept : List InvClause) (depth : ℕ) (clause : InvClause) (proof : InvProof) (fault : CheckFault)
    → IsSound d → ProvesClause coding d kept depth clause proof
    → HasFaultIn coding (λ offset. clause_query d kept clause Base offset) (clause_query d kept clause Step depth) proof.base proof.step fault → ⊥
clause_excludes coding d kept depth clause proof fault sound proves =
    fault_in_excludes coding (λ offset. clause_query d kept clause Base offset) (clause_query d kept clause Step depth) depth proof.base proof.step fault
    (λ k. sound) sound proves.base proves.step

-- the derivations of the kept clause of a number have no fault where all are proved
kept_excludes : (coding : Coding) (d : Design) (kept : List InvClause) (depth : ℕ) (proofs : List InvProof) (place : ℕ) (clause : InvClause)
    (proof : InvProof) (fault : CheckFault) → IsSound d → ProveKept coding d kept depth proofs → item_numbered kept place ≡ Some clause
    → item_numbered proofs place ≡ Some proof
    → HasFaultIn coding (λ offset. clause_query d kept clause Base offset) (clause_query d kept clause Step depth) proof.base proof.step fault → ⊥
kept_excludes coding d kept depth proofs zero clause proof fault sound proved at there has = absurd cc
kept_excludes coding d kept depth proofs (suc k) clause proof fault sound proved at there has =
    clause_excludes coding d kept depth clause proof fault sound (proved.each k clause proof at there) has

pair_excludes : (coding : Coding) (d : Design) (kept : List InvClause) (claim : Claim) (proof : Proof) (fault : CheckFault) → IsSound d
    → ProvesPair coding d kept claim proof → HasProofFault coding d kept claim proof fault → ⊥
pair_excludes coding d kept claim Single fault sound proves has = has
pair_excludes coding d kept claim Fixed fault sound proves has = has
pair_excludes coding d kept claim (Depth depth base step) fault sound proves has =
    fault_in_excludes coding (λ offset. claim_query d claim Base offset kept) (claim_query d claim Step depth kept) depth base step fault
    (λ k. sound) sound proves.1 proves.2 has

twice_excludes : (numbers : List ℕ) (number : ℕ) → AreDistinct numbers → ListsTwice numbers number → ⊥
twice_excludes numbers number distinct twice =
    let same = distinct twice.first twice.second number twice.here twice.again in
    let apart = twice.apart in
    omega (arith, same, apart)

-- a certificate with a cause is not accepted
pub not_accepted : (coding : Coding) (d : Design) (claims : List Claim) (cert : Cert) (fault : CertFault) → IsSound d → fault ≢ Memory
    → IsCause coding d claims cert fault → IsAccepted coding d claims cert → ⊥
not_accepted coding d claims cert (Form offset) sound told cause accepted = cause
not_accepted coding d claims cert (Version number) sound told cause accepted = cause
not_accepted coding d claims cert (UnknownRegister place) sound told cause accepted =
    cause.2 (All-numbered (NamesRegs d) cert.kept place cause.0 cause.1 accepted.listed.registers)
not_accepted coding d claims cert (UnknownPair number) sound told cause accepted =
    cause.1.unknown (All-contains (IsClaimNumber claims) (listed_numbers cert.pairs) number accepted.listed.known cause.1.listed)
not_accepted coding d claims cert (TwicePair number) sound told cause accepted =
    twice_excludes (listed_numbers cert.pairs) number accepted.listed.once cause.2
not_accepted coding d claims cert (NotTrivial number) sound told cause accepted =
    let it = cause.3 in it.unsuited (accepted.listed.suited it.pair it.claim it.listed)
not_accepted coding d claims cert (Invariant place fault) sound told cause accepted =
    let it = cause.1 in
    kept_excludes coding d cert.kept cert.depth cert.proofs place it.clause it.proof fault sound accepted.kept it.clause_at it.proof_at it.has
not_accepted coding d claims cert (Pair number fault) sound told cause accepted =
    let it = cause.2 in
    pair_excludes coding d cert.kept it.claim it.pair.proof fault sound (accepted.proved it.pair it.claim it.listed) it.has
not_accepted coding d claims cert Memory sound told cause accepted = absurd (told refl)
