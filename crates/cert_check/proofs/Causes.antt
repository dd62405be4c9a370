-- What the parts of a check say of the certificate.
use Rattle.std.proofs.Common.{◌≡◌, ◌≢◌, ℕ, suc, ◌+◌, ◌<◌, ◌≤◌, Option, Some, List, [], length, refl, sym, ap, subst, inl, inr, arith}
use Rattle.std.specs.Prelude.{Contains, slice_get}
use Rattle.std.proofs.lemmas.Bool.{cases_lt}
use Rattle.std.proofs.lemmas.Option.{slice_get_within}
use Rattle.net_model.specs.Netlist.{IsSound}
use Rattle.net_model.specs.Queries.{clause_query}
use Rattle.net_model.proofs.Existence.{item_at}
use Rattle.net_model.proofs.Settling.{All-at}
use Rattle.net_model.specs.declared.netlist.Design.{Design}
use Rattle.net_model.specs.declared.claims.Claim.{Claim}
use Rattle.net_model.specs.declared.invariants.InvClause.{InvClause}
use Rattle.net_model.specs.declared.queries.Phase.TheVariants.{Base, Step}
use Rattle.rup_check.specs.declared.faults.CheckFault.{CheckFault}
use Rattle.rup_check.specs.declared.faults.CheckFault.TheVariants.{HintMissing, HintNotUnit, NoConflict, NotEmpty, Memory as NoRoom}
use Rattle.query_model.specs.declared.keys.Coding.{Coding}
use Rattle.verdicts.specs.Certified.{ProvesClause, ProveKept}
use Rattle.verdict_types.specs.declared.kept.InvProof.{InvProof}
use Rattle.cert_values.specs.Certs.{IsComplete}
use Rattle.cert_values.specs.declared.certs.Cert.{Cert}
use Rattle.cert_values.specs.declared.faults.CertFault.{CertFault}
use Rattle.cert_values.specs.declared.faults.CertFault.TheVariants.{Form, Version, UnknownRegister, UnknownPair, TwicePair}
use Rattle.cert_values.specs.declared.faults.CertFault.TheVariants.{NotTrivial, Invariant, Pair, Memory}
use Rattle.cert_defs.specs.Listed.{item_numbered, IsWellListed}
use Rattle.cert_defs.specs.Accepted.{Accepts, AreProved, IsAccepted}
use Rattle.cert_defs.specs.Refused.{HasFaultIn, HasClauseFault, HasPairFault, IsCause}
use Rattle.cert_defs.proofs.Refusing.{not_accepted}
use Rattle.cert_check.specs.Checking.{clause_fault, pair_fault}
use Rattle.cert_check.proofs.Below.{EachBelow, each_of}

-- a fault of a kept clause's derivation is a cause
pub clause_cause : (coding : Coding) (d : Design) (claims : List Claim) (cert : Cert) (place : ℕ) (fault : CheckFault) → IsWellListed d claims cert
    → (fault ≢ NoRoom → HasClauseFault coding d cert place fault) → IsCause coding d claims cert (clause_fault place fault)
clause_cause coding d claims cert place NoRoom listed has = tt
clause_cause coding d claims cert place (HintMissing step) listed has = (listed, has (λ e. cc))
clause_cause coding d claims cert place (HintNotUnit step hint) listed has = (listed, has (λ e. cc))
clause_cause coding d claims cert place (NoConflict step) listed has = (listed, has (λ e. cc))
clause_cause coding d claims cert place NotEmpty listed has = (listed, has (λ e. cc))

-- and so is one of a pair's
pub pair_cause : (coding : Coding) (d : Design) (claims : List Claim) (cert : Cert) (number : ℕ) (fault : CheckFault) → IsWellListed d claims cert
    → ProveKept coding d cert.kept cert.depth cert.proofs → (fault ≢ NoRoom → HasPairFault coding d claims cert number fault)
    → IsCause coding d claims cert (pair_fault number fault)
pair_cause coding d claims cert number NoRoom listed kept has = tt
pair_cause coding d claims cert number (HintMissing step) listed kept has = (listed, kept, has (λ e. cc))
pair_cause coding d claims cert number (HintNotUnit step hint) listed kept has = (listed, kept, has (λ e. cc))
pair_cause coding d claims cert number (NoConflict step) listed kept has = (listed, kept, has (λ e. cc))
pair_cause coding d claims cert number NotEmpty listed kept has = (listed, kept, has (λ e. cc))

-- a cause other than want of memory leaves no list
pub is_memory : (coding : Coding) (d : Design) (claims : List Claim) (cert : Cert) (numbers : List ℕ) (fault : CertFault) → IsSound d
    → IsCause coding d claims cert fault → Accepts coding d claims cert numbers → fault ≡ Memory
is_memory coding d claims cert numbers (Form offset) sound cause accepts = absurd cause
is_memory coding d claims cert numbers (Version number) sound cause accepts = absurd cause
is_memory coding d claims cert numbers (UnknownRegister place) sound cause accepts =
    absurd (not_accepted coding d claims cert (UnknownRegister place) sound (λ e. cc) cause accepts.accepted)
is_memory coding d claims cert numbers (UnknownPair number) sound cause accepts =
    absurd (not_accepted coding d claims cert (UnknownPair number) sound (λ e. cc) cause accepts.accepted)
is_memory coding d claims cert numbers (TwicePair number) sound cause accepts =
    absurd (not_accepted coding d claims cert (TwicePair number) sound (λ e. cc) cause accepts.accepted)
is_memory coding d claims cert numbers (NotTrivial number) sound cause accepts =
    absurd (not_accepted coding d claims cert (NotTrivial number) sound (λ e. cc) cause accepts.accepted)
is_memory coding d claims cert numbers (Invariant place of_check) sound cause accepts =
    absurd (not_accepted coding d claims cert (Invariant place of_check) sound (λ e. cc) cause accepts.accepted)
is_memory coding d claims cert numbers (Pair number of_check) sound cause accepts =
    absurd (not_accepted coding d claims cert (Pair number of_check) sound (λ e. cc) cause accepts.accepted)
is_memory coding d claims cert numbers Memory sound cause accepts = refl

-- the item of a place stands at the next number
item_after : {X : Type 0} (items : List X) (place : ℕ) (x : X) → slice_get items place ≡ Some x → item_numbered items (place + 1) ≡ Some x
item_after items place x at = subst (λ (n : ℕ). item_numbered items n ≡ Some x) (let e : suc place ≡ place + 1 = omega arith in e) at

-- as many base derivations as the depth says
bases_at : (cert : Cert) (place : ℕ) (proof : InvProof) → IsComplete cert → slice_get cert.proofs place ≡ Some proof → length proof.base ≡ cert.depth
bases_at cert place proof complete at = All-at (λ (p : InvProof). length p.base ≡ cert.depth) cert.proofs place proof at complete.bases

-- a fault of the derivations at a place, against the clauses as they are passed, is one of the certificate
pub fault_at : (coding : Coding) (d : Design) (cert : Cert) (kept : List InvClause) (place : ℕ) (proof : InvProof) (fault : CheckFault) → kept ≡ cert.kept
    → IsComplete cert → place < length cert.kept → slice_get cert.proofs place ≡ Some proof
    → ((clause : InvClause) → slice_get kept place ≡ Some clause
    → HasFaultIn coding (λ offset. clause_query d kept clause Base offset) (clause_query d kept clause Step (length proof.base))
    proof.base proof.step fault)
    → HasClauseFault coding d cert (place + 1) fault
fault_at coding d cert kept place proof fault same complete within at has =
    let found = item_at cert.kept place within in
    let there = subst (λ (clauses : List InvClause). slice_get clauses place ≡ Some found.0) (sym same) found.1 in
    let here = subst (λ (clauses : List InvClause). HasFaultIn coding (λ offset. clause_query d clauses found.0 Base offset)
    (clause_query d clauses found.0 Step (length proof.base)) proof.base proof.step fault) same (has found.0 there) in
    record {
      clause = found.0;
      proof = proof;
      clause_at = item_after cert.kept place found.0 found.1;
      proof_at = item_after cert.proofs place proof at;
      has =
          subst (λ (n : ℕ). HasFaultIn coding (λ offset. clause_query d cert.kept found.0 Base offset) (clause_query d cert.kept found.0 Step n)
          proof.base proof.step fault) (bases_at cert place proof complete at) here;
    }

one_item : {X : Type 0} (item : Option X) (a b : X) → item ≡ Some a → item ≡ Some b → a ≡ b
one_item item a b here there = cc

-- what is proved of the clauses as they are passed is proved of the certificate
pub proved_at : (coding : Coding) (d : Design) (cert : Cert) (kept : List InvClause) (place : ℕ) (proof : InvProof) → kept ≡ cert.kept → IsComplete cert
    → slice_get cert.proofs place ≡ Some proof
    → ((clause : InvClause) → slice_get kept place ≡ Some clause → ProvesClause coding d kept (length proof.base) clause proof)
    → (clause : InvClause) → slice_get cert.kept place ≡ Some clause → (p : InvProof) → slice_get cert.proofs place ≡ Some p
    → ProvesClause coding d cert.kept cert.depth clause p
proved_at coding d cert kept place proof same complete at proves clause there p also =
    let first = subst (λ (clauses : List InvClause). slice_get clauses place ≡ Some clause) (sym same) there in
    let of_kept = subst (λ (clauses : List InvClause). ProvesClause coding d clauses (length proof.base) clause proof) same (proves clause first) in
    let of_depth = subst (λ (n : ℕ). ProvesClause coding d cert.kept n clause proof) (bases_at cert place proof complete at) of_kept in
    subst (ProvesClause coding d cert.kept cert.depth clause) (one_item (slice_get cert.proofs place) proof p at also) of_depth

-- what is kept is kept at a depth above 0
deep_of : (cert : Cert) (clause : InvClause) → IsComplete cert → Contains cert.kept clause → 0 < cert.depth
deep_of cert clause complete has =
    elim (cases_lt 0 cert.depth) [
      | inl deep ↦ deep
      | inr flat ↦
          absurd (let lt = has.1 in
          let none : length cert.kept ≡ 0 = ap length (complete.none (let e : cert.depth ≡ 0 = omega (arith, flat) in e)) in
          omega (arith, lt, none))
    ]

-- all kept clauses are proved
pub kept_proved : (coding : Coding) (d : Design) (cert : Cert) (place : ℕ) → IsComplete cert
    → EachBelow (λ (j : ℕ) (clause : InvClause). (proof : InvProof) → slice_get cert.proofs j ≡ Some proof
    → ProvesClause coding d cert.kept cert.depth clause proof) cert.kept place → length cert.kept ≤ place
    → ProveKept coding d cert.kept cert.depth cert.proofs
kept_proved coding d cert place complete below long =
    record {
      deep = λ clause has. deep_of cert clause complete has;
      as_many = complete.as_many;
      each = λ k clause proof at there.
          each_of (λ (j : ℕ) (c : InvClause). (p : InvProof) → slice_get cert.proofs j ≡ Some p → ProvesClause coding d cert.kept cert.depth c p)
          cert.kept place below long k clause at proof there;
    }

-- what is shown of the prepared design is shown of the design
pub of_prepared : (P : Coding → Design → Type 0) (made coding : Coding) (prepared d : Design) → made ≡ coding → prepared ≡ d → P made prepared → P coding d
of_prepared P made coding prepared d same_coding same shown = subst (P coding) same (subst (λ (c : Coding). P c prepared) same_coding shown)

-- what is listed, kept and proved is accepted
pub all_accepted : (made coding : Coding) (prepared d : Design) (claims : List Claim) (cert : Cert) → made ≡ coding → prepared ≡ d
    → IsWellListed d claims cert → ProveKept made prepared cert.kept cert.depth cert.proofs → AreProved made prepared claims cert
    → IsAccepted coding d claims cert
all_accepted made coding prepared d claims cert same_coding same listed kept proved =
    record {
      listed = listed;
      kept = of_prepared (λ (c : Coding) (e : Design). ProveKept c e cert.kept cert.depth cert.proofs) made coding prepared d same_coding same kept;
      proved = of_prepared (λ (c : Coding) (e : Design). AreProved c e claims cert) made coding prepared d same_coding same proved;
    }

-- so is a certificate that lists well and has neither a kept clause nor a pair
pub nothing_accepted : (coding : Coding) (d : Design) (claims : List Claim) (cert : Cert) → IsComplete cert → IsWellListed d claims cert
    → cert.kept ≡ [] → cert.pairs ≡ [] → IsAccepted coding d claims cert
nothing_accepted coding d claims cert complete listed none_kept none_listed =
    record {
      listed = listed;
      kept = kept_proved coding d cert 0 complete (λ k clause low at. absurd (omega (arith, low))) (omega (arith, ap length none_kept));
      proved = λ pair claim is. absurd (omega (arith, slice_get_within cert.pairs is.place pair is.at, ap length none_listed));
    }
