-- Right verdicts, gathered claim by claim.
use Rattle.std.proofs.Common.{◌≡◌, ℕ, ◌+◌, ◌<◌, inl, inr, Some, List, [], ◌∷◌, ◌++◌, length, take, get_or, refl, sym, ap, ◌∙◌, subst, length-append, arith}
use Rattle.std.specs.Prelude.{slice_get}
use Rattle.std.proofs.lemmas.List.{take_more}
use Rattle.std.proofs.lemmas.Option.{slice_get_within, get_or_from_slice_get}
use Rattle.net_model.specs.declared.netlist.Design.{Design}
use Rattle.net_model.specs.declared.claims.Claim.{Claim}
use Rattle.net_model.specs.declared.invariants.InvClause.{InvClause}
use Rattle.verdicts.specs.Verdicts.{IsRight}
use Rattle.verdict_types.specs.declared.outcomes.Limits.{Limits}
use Rattle.verdict_types.specs.declared.outcomes.Verdict.{Verdict}
use Rattle.verdicts.proofs.Extending.{push_cases}
use Rattle.cert_defs.specs.Accepted.{AreRightVerdicts}

-- no claim has its verdict
pub right_none : (d : Design) (kept : List InvClause) (limits : Limits) → AreRightVerdicts d [] kept limits []
right_none d kept limits = record { as_many = refl; each = λ place claim verdict at told. absurd cc }

right_at : (d : Design) (claims : List Claim) (kept : List InvClause) (limits : Limits) (verdicts : List Verdict) (claim : Claim) (verdict : Verdict)
    → AreRightVerdicts d claims kept limits verdicts → IsRight d claim kept limits verdict → (place : ℕ) (c : Claim) (v : Verdict)
    → slice_get (claims ++ claim ∷ []) place ≡ Some c → slice_get (verdicts ++ verdict ∷ []) place ≡ Some v → IsRight d c kept limits v
right_at d claims kept limits verdicts claim verdict right one place c v at told =
    elim (push_cases claims claim place c at) [
      | inl early ↦ elim (push_cases verdicts verdict place v told) [
        | inl before ↦ right.each place c v early before
        | inr last ↦ absurd (let low = slice_get_within claims place c early in omega (arith, low, last.0, right.as_many))
      ]
      | inr end ↦ elim (push_cases verdicts verdict place v told) [
        | inl before ↦ absurd (let low = slice_get_within verdicts place v before in omega (arith, low, end.0, right.as_many))
        | inr last ↦
            subst (λ (x : Claim). IsRight d x kept limits v) end.1 (subst (λ (y : Verdict). IsRight d claim kept limits y) last.1 one)
      ]
    ]

-- one more claim has its verdict
pub right_push : (d : Design) (claims : List Claim) (kept : List InvClause) (limits : Limits) (verdicts : List Verdict) (claim : Claim)
    (verdict : Verdict) → AreRightVerdicts d claims kept limits verdicts → IsRight d claim kept limits verdict
    → AreRightVerdicts d (claims ++ claim ∷ []) kept limits (verdicts ++ verdict ∷ [])
right_push d claims kept limits verdicts claim verdict right one = record {
  as_many = let same = right.as_many in simp length-append (omega (arith, same));
  each = right_at d claims kept limits verdicts claim verdict right one;
}

-- the claim after the first ones has its verdict too
pub right_more : (d : Design) (claims : List Claim) (kept : List InvClause) (limits : Limits) (verdicts : List Verdict) (k : ℕ) (claim : Claim)
    (verdict : Verdict) → AreRightVerdicts d (take k claims) kept limits verdicts → slice_get claims k ≡ Some claim
    → IsRight d claim kept limits verdict → AreRightVerdicts d (take (k + 1) claims) kept limits (verdicts ++ verdict ∷ [])
right_more d claims kept limits verdicts k claim verdict right at one =
    let more : take (k + 1) claims ≡ take k claims ++ claim ∷ [] =
    take_more claims k claim (slice_get_within claims k claim at)
    ∙ ap (λ (c : Claim). take k claims ++ c ∷ []) (get_or_from_slice_get claims k claim claim at) in
    subst (λ (cs : List Claim). AreRightVerdicts d cs kept limits (verdicts ++ verdict ∷ [])) (sym more)
    (right_push d (take k claims) kept limits verdicts claim verdict right one)
