-- The certificate of what was found is accepted.
use Rattle.std.proofs.Common.{if◌then◌else◌, Bool, true, false, ◌≡◌, ℕ, zero, suc, ◌+◌, ◌<◌, ◌≤◌, Option, Some, List, [], ◌∷◌, length, refl, subst, arith}
use Rattle.std.specs.Prelude.{All, Contains, slice_get}
use Rattle.std.specs.List.{list_any}
use Rattle.std.proofs.lemmas.Option.{slice_get_within}
use Rattle.std.proofs.lemmas.List.Elements.{All-map}
use Rattle.net_model.proofs.Existence.{item_at}
use Rattle.net_model.specs.declared.netlist.Design.{Design}
use Rattle.net_model.specs.declared.claims.Claim.{Claim}
use Rattle.net_model.specs.declared.invariants.InvClause.{InvClause}
use Rattle.net_model.specs.Fits.{NamesRegs}
use Rattle.verdicts.specs.Logs.{own_coding}
use Rattle.verdicts.specs.Verdicts.{IsRightProof}
use Rattle.verdicts.specs.Certified.{ProveKept, ProvesPair}
use Rattle.verdict_types.specs.declared.kept.InvProof.{InvProof}
use Rattle.verdict_types.specs.declared.kept.InvSet.{InvSet}
use Rattle.verdict_types.specs.declared.outcomes.Limits.{Limits}
use Rattle.verdict_types.specs.declared.outcomes.Proof.{Proof}
use Rattle.verdict_types.specs.declared.outcomes.Proof.TheVariants.{Single, Fixed, Depth}
use Rattle.verdict_types.specs.declared.outcomes.Verdict.{Verdict}
use Rattle.verdict_types.specs.declared.outcomes.Verdict.TheVariants.{Justified, Refuted, Undecided}
use Rattle.cert_values.specs.Versions.{coding_of, is_long, version_for}
use Rattle.cert_values.specs.Certs.{HasBases, IsComplete, listed_numbers, justified_from, cert_of}
use Rattle.cert_values.specs.declared.certs.PairProof.{PairProof}
use Rattle.cert_defs.specs.Listed.{item_numbered, IsClaimNumber, IsListed, Suits}
use Rattle.cert_defs.specs.Accepted.{Accepts, AscendFrom, AreRightVerdicts, justified_numbers}
use Rattle.cert_defs.proofs.Numbering.{contains_at, all_from_at, ascend_weaker, distinct_ascending}

-- the claim that is listed at a place is justified by its verdict
record IsJustifiedAt (number : ℕ) (verdicts : List Verdict) (pair : PairProof) : Type 0 where
  place : ℕ
  at : slice_get verdicts place ≡ Some (Justified pair.proof)
  number_is : pair.number ≡ number + place

one_later : (number : ℕ) (verdict : Verdict) (verdicts : List Verdict) (pair : PairProof) → IsJustifiedAt (number + 1) verdicts pair
    → IsJustifiedAt number (verdict ∷ verdicts) pair
one_later number verdict verdicts pair found =
    let e = found.number_is in record { place = suc found.place; at = found.at; number_is = omega (arith, e) }

justified_at : (number : ℕ) (verdicts : List Verdict) (k : ℕ) (pair : PairProof) → slice_get (justified_from number verdicts) k ≡ Some pair
    → IsJustifiedAt number verdicts pair
justified_at number [] k pair at = absurd cc
justified_at number (Justified proof ∷ verdicts) zero pair at =
    let same : record { number = number; proof = proof } ≡ pair = cc in
    subst (IsJustifiedAt number (Justified proof ∷ verdicts)) same (record { place = 0; at = refl; number_is = omega arith })
justified_at number (Justified proof ∷ verdicts) (suc k) pair at =
    one_later number (Justified proof) verdicts pair (justified_at (number + 1) verdicts k pair at)
justified_at number (Refuted offset stimulus ∷ verdicts) k pair at =
    one_later number (Refuted offset stimulus) verdicts pair (justified_at (number + 1) verdicts k pair at)
justified_at number (Undecided cause ∷ verdicts) k pair at =
    one_later number (Undecided cause) verdicts pair (justified_at (number + 1) verdicts k pair at)

-- the numbers of the justified claims ascend
ascend_justified : (number : ℕ) (verdicts : List Verdict) → AscendFrom number (listed_numbers (justified_from number verdicts))
ascend_justified number [] = tt
ascend_justified number (Justified proof ∷ verdicts) = let e : number ≤ number = omega arith in (e, ascend_justified (number + 1) verdicts)
ascend_justified number (Refuted offset stimulus ∷ verdicts) =
    ascend_weaker number (number + 1) (listed_numbers (justified_from (number + 1) verdicts)) (omega arith) (ascend_justified (number + 1) verdicts)
ascend_justified number (Undecided cause ∷ verdicts) =
    ascend_weaker number (number + 1) (listed_numbers (justified_from (number + 1) verdicts)) (omega arith) (ascend_justified (number + 1) verdicts)

-- a right proof is of its kind, and proves the claim
suits_right : (d : Design) (claim : Claim) (kept : List InvClause) (limits : Limits) (proof : Proof) → IsRightProof d claim kept limits proof
    → Suits d claim proof
suits_right d claim kept limits Single right = right
suits_right d claim kept limits Fixed right = right
suits_right d claim kept limits (Depth depth base step) right = right.0.judged.captures

proves_right : (d : Design) (claim : Claim) (kept : List InvClause) (limits : Limits) (proof : Proof) → IsRightProof d claim kept limits proof
    → ProvesPair own_coding d kept claim proof
proves_right d claim kept limits Single right = right
proves_right d claim kept limits Fixed right = right
proves_right d claim kept limits (Depth depth base step) right = (right.0.judged.captures, right.1.base_refuted, right.1.step_refuted)

bases_right : (d : Design) (claim : Claim) (kept : List InvClause) (limits : Limits) (proof : Proof) → limits.depth ≤ 64
    → IsRightProof d claim kept limits proof → HasBases proof
bases_right d claim kept limits Single few right = tt
bases_right d claim kept limits Fixed few right = tt
bases_right d claim kept limits (Depth depth base step) few right =
    let allowed = right.0.allowed in (omega (arith, allowed, few), right.1.base_refuted.as_many)

-- a justified claim that is listed at a place, and its right proof
record HasRightProof (d : Design) (claims : List Claim) (kept : List InvClause) (limits : Limits) (pair : PairProof) : Type 0 where
  place : ℕ
  claim : Claim
  claim_at : slice_get claims place ≡ Some claim
  number_is : pair.number ≡ suc place
  right : IsRightProof d claim kept limits pair.proof

right_of : (d : Design) (claims : List Claim) (kept : List InvClause) (limits : Limits) (verdicts : List Verdict) (k : ℕ) (pair : PairProof)
    → AreRightVerdicts d claims kept limits verdicts → slice_get (justified_from 1 verdicts) k ≡ Some pair
    → HasRightProof d claims kept limits pair
right_of d claims kept limits verdicts k pair right at =
    let found = justified_at 1 verdicts k pair at in
    let within = slice_get_within verdicts found.place (Justified pair.proof) found.at in
    let claim = item_at claims found.place (omega (arith, within, right.as_many)) in
    let e = found.number_is in
    record {
      place = found.place;
      claim = claim.0;
      claim_at = claim.1;
      number_is = omega (arith, e);
      right = right.each found.place claim.0 (Justified pair.proof) claim.1 found.at;
    }

one_item : {X : Type 0} (item : Option X) (a b : X) → item ≡ Some a → item ≡ Some b → a ≡ b
one_item item a b here there = cc

-- the claim of that number is the one whose verdict is right
right_listed : (d : Design) (claims : List Claim) (kept : List InvClause) (limits : Limits) (verdicts : List Verdict) (pair : PairProof) (claim : Claim)
    → AreRightVerdicts d claims kept limits verdicts → IsListed claims (justified_from 1 verdicts) pair claim
    → IsRightProof d claim kept limits pair.proof
right_listed d claims kept limits verdicts pair claim right listed =
    let it = right_of d claims kept limits verdicts listed.place pair right listed.at in
    let there = subst (λ (n : ℕ). item_numbered claims n ≡ Some claim) it.number_is listed.claim_at in
    subst (λ (c : Claim). IsRightProof d c kept limits pair.proof) (one_item (slice_get claims it.place) it.claim claim it.claim_at there) it.right

known_right : (d : Design) (claims : List Claim) (kept : List InvClause) (limits : Limits) (verdicts : List Verdict)
    → AreRightVerdicts d claims kept limits verdicts → All (IsClaimNumber claims) (justified_numbers verdicts)
known_right d claims kept limits verdicts right =
    All-map (IsClaimNumber claims) (λ (p : PairProof). p.number) (justified_from 1 verdicts)
    (all_from_at (λ (p : PairProof). IsClaimNumber claims p.number) (justified_from 1 verdicts)
    (λ k pair at.
    let it = right_of d claims kept limits verdicts k pair right at in
    let within = slice_get_within claims it.place it.claim it.claim_at in
    let e = it.number_is in
    (omega (arith, e), omega (arith, e, within))))

-- what is written speaks of the formulas that are asked, whatever is kept
pub written_coding : (kept : List InvClause) → coding_of (version_for kept) ≡ own_coding
written_coding kept = by (list_any is_long kept)
  where
    by : (long : Bool) → coding_of (if long then 3 else 2) ≡ own_coding
    by true = refl
    by false = refl

-- where nothing is kept at depth 0
none_kept : (kept : List InvClause) (depth : ℕ) → ((clause : InvClause) → Contains kept clause → 0 < depth) → depth ≡ 0 → kept ≡ []
none_kept [] depth deep e = refl
none_kept (clause ∷ kept) depth deep e =
    absurd (let more = deep clause (contains_at (clause ∷ kept) 0 clause refl) in omega (arith, more, e))

bases_kept : (d : Design) (kept : List InvClause) (depth : ℕ) (proofs : List InvProof) → ProveKept own_coding d kept depth proofs
    → All (λ (p : InvProof). length p.base ≡ depth) proofs
bases_kept d kept depth proofs proved =
    all_from_at (λ (p : InvProof). length p.base ≡ depth) proofs
    (λ k proof at.
    let within = slice_get_within proofs k proof at in
    let clause = item_at kept k (omega (arith, within, proved.as_many)) in
    (proved.each k clause.0 proof clause.1 at).base.as_many)

pub found_complete : (d : Design) (claims : List Claim) (inv : InvSet) (limits : Limits) (verdicts : List Verdict)
    → ProveKept own_coding d inv.kept inv.depth inv.proofs → AreRightVerdicts d claims inv.kept limits verdicts → inv.depth ≤ 8 → limits.depth ≤ 64
    → IsComplete (cert_of inv verdicts)
found_complete d claims inv limits verdicts proved right shallow few =
    record {
      few = shallow;
      none = none_kept inv.kept inv.depth proved.deep;
      as_many = proved.as_many;
      bases = bases_kept d inv.kept inv.depth inv.proofs proved;
      pairs =
          all_from_at (λ (p : PairProof). HasBases p.proof) (justified_from 1 verdicts)
          (λ k pair at.
          let it = right_of d claims inv.kept limits verdicts k pair right at in
          bases_right d it.claim inv.kept limits pair.proof few it.right);
    }

pub found_accepted : (d : Design) (claims : List Claim) (inv : InvSet) (limits : Limits) (verdicts : List Verdict) → All (NamesRegs d) inv.kept
    → ProveKept own_coding d inv.kept inv.depth inv.proofs → AreRightVerdicts d claims inv.kept limits verdicts
    → Accepts own_coding d claims (cert_of inv verdicts) (justified_numbers verdicts)
found_accepted d claims inv limits verdicts names proved right =
    record {
      accepted =
          record {
            listed =
                record {
                  registers = names;
                  known = known_right d claims inv.kept limits verdicts right;
                  once = distinct_ascending 1 (justified_numbers verdicts) (ascend_justified 1 verdicts);
                  suited = λ pair claim listed.
                      suits_right d claim inv.kept limits pair.proof (right_listed d claims inv.kept limits verdicts pair claim right listed);
                };
            kept = proved;
            proved = λ pair claim listed.
                proves_right d claim inv.kept limits pair.proof (right_listed d claims inv.kept limits verdicts pair claim right listed);
          };
      numbers_are = record { ascending = ascend_justified 1 verdicts; same = λ number. (λ has. has, λ has. has) };
    }
