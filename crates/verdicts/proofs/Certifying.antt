-- Kept clauses and claims that are shown by derivations hold.
use Rattle.std.proofs.Common.{◌≡◌, ℕ, List, Some, ap, ◌∙◌, arith}
use Rattle.std.specs.Prelude.{All, Contains, slice_get}
use Rattle.std.proofs.lemmas.Option.{slice_get-get_or}
use Rattle.std.proofs.lemmas.List.Elements.{All-contains}
use Rattle.net_model.specs.Netlist.{IsSound}
use Rattle.net_model.specs.Fits.{Fits}
use Rattle.net_model.specs.Judge.{Holds}
use Rattle.net_model.specs.Queries.{claim_query, clause_query}
use Rattle.net_model.proofs.Existence.{item_at}
use Rattle.net_model.proofs.Holding.{held_holds, unjudged_holds}
use Rattle.net_model.specs.declared.netlist.Design.{Design}
use Rattle.net_model.specs.declared.claims.Claim.{Claim}
use Rattle.net_model.specs.declared.invariants.InvClause.{InvClause}
use Rattle.net_model.specs.declared.queries.Phase.TheVariants.{Base, Step}
use Rattle.net_model.specs.Fits.{NamesRegs}
use Rattle.query_model.specs.declared.keys.Coding.{Coding}
use Rattle.verdicts.specs.Inductive.{AreAlwaysMet, IsInductive}
use Rattle.verdicts.specs.Verdicts.{IsRightProof}
use Rattle.verdicts.specs.Certified.{ProvesClause, ProveKept, ProvesPair}
use Rattle.verdicts.proofs.Refuting.{claim_refuted, clause_refuted, at_each}
use Rattle.verdicts.proofs.Cutting.{holds_at}
use Rattle.verdicts.proofs.Inducting.{holds_by_induction}
use Rattle.verdicts.proofs.Keeping.{met_first, met_next, always_met}
use Rattle.verdict_types.specs.declared.kept.InvProof.{InvProof}
use Rattle.verdict_types.specs.declared.outcomes.Limits.{Limits}
use Rattle.verdict_types.specs.declared.outcomes.Proof.{Proof}
use Rattle.verdict_types.specs.declared.outcomes.Proof.TheVariants.{Single, Fixed, Depth}

-- a clause that is kept has a proof
proof_of : (coding : Coding) (d : Design) (kept : List InvClause) (depth : ℕ) (proofs : List InvProof) (clause : InvClause)
    → ProveKept coding d kept depth proofs → Contains kept clause → (proof : InvProof) × ProvesClause coding d kept depth clause proof
proof_of coding d kept depth proofs clause proved has =
    let proof = item_at proofs has.0 (omega (arith, has.1, proved.as_many)) in
    let at : slice_get kept has.0 ≡ Some clause = slice_get-get_or kept has.0 clause has.1 ∙ ap Some has.2 in
    (proof.0, proved.each has.0 clause proof.0 at proof.1)

-- kept clauses with derivations are an inductive set
pub inductive_where_proved : (coding : Coding) (d : Design) (kept : List InvClause) (depth : ℕ) (proofs : List InvProof) → IsSound d
    → All (NamesRegs d) kept → ProveKept coding d kept depth proofs → IsInductive d depth kept
inductive_where_proved coding d kept depth proofs sound names proved =
    let name : (clause : InvClause) → Contains kept clause → NamesRegs d clause = λ clause has. All-contains (NamesRegs d) kept clause names has in
    record {
      deep = proved.deep;
      first = λ clause has.
          let proof = proof_of coding d kept depth proofs clause proved has in
          met_first d kept clause depth
          (λ i run low.
          let derivation = at_each coding (λ k. clause_query d kept clause Base k) depth proof.0.base proof.1.base i low in
          clause_refuted coding d kept clause Base i derivation.0 sound (name clause has) names derivation.1 run);
      next = λ clause has.
          let proof = proof_of coding d kept depth proofs clause proved has in
          met_next d kept clause depth (clause_refuted coding d kept clause Step depth proof.0.step sound (name clause has) names proof.1.step);
    }

-- a claim with a right proof holds
pub justified_holds : (d : Design) (claim : Claim) (kept : List InvClause) (limits : Limits) (proof : Proof) → IsSound d → AreAlwaysMet d kept
    → IsRightProof d claim kept limits proof → Holds d claim
justified_holds d claim kept limits Single sound met right = unjudged_holds d claim right
justified_holds d claim kept limits Fixed sound met right = held_holds d claim right.1
justified_holds d claim kept limits (Depth depth base step) sound met right =
    holds_by_induction d claim kept depth sound met right.0.open_.holds right.1.none

-- a claim with derivations holds where the kept clauses are always met
pub proved_holds : (coding : Coding) (d : Design) (claim : Claim) (kept : List InvClause) (proof : Proof) → IsSound d → Fits d claim
    → All (NamesRegs d) kept → AreAlwaysMet d kept → ProvesPair coding d kept claim proof → Holds d claim
proved_holds coding d claim kept Single sound fits names met is = unjudged_holds d claim is
proved_holds coding d claim kept Fixed sound fits names met is = held_holds d claim is.1
proved_holds coding d claim kept (Depth depth base step) sound fits names met is =
    holds_by_induction d claim kept depth sound met
    (λ offset low.
    let derivation = at_each coding (λ k. claim_query d claim Base k kept) depth base is.1 offset low in
    holds_at d claim kept offset sound (claim_refuted coding d claim Base offset kept derivation.0 sound fits names derivation.1))
    (claim_refuted coding d claim Step depth kept step sound fits names is.2)

-- the kept clauses have derivations, so they are always met
pub kept_met : (coding : Coding) (d : Design) (kept : List InvClause) (depth : ℕ) (proofs : List InvProof) → IsSound d → All (NamesRegs d) kept
    → ProveKept coding d kept depth proofs → AreAlwaysMet d kept
kept_met coding d kept depth proofs sound names proved =
    always_met d depth kept (inductive_where_proved coding d kept depth proofs sound names proved)
