use Rattle.std.proofs.Common.{◌≡◌, ℕ, Some}
use Rattle.std.specs.Prelude.{slice_get}
use Rattle.net_model.specs.declared.invariants.InvClause.{InvClause}
use Rattle.verdicts.specs.Certified.{ProvesClause}
use Rattle.verdict_types.specs.declared.kept.InvProof.{InvProof}
use Rattle.cert_check.proofs.Below.{EachBelow}
use Rattle.cert_check.proofs.checking.prove_kept.Given as goal

abbrev pub invariant-loop-place : goal.invariant-loop-place
invariant-loop-place l =
    EachBelow (λ (j : ℕ) (clause : InvClause). (proof : InvProof) → slice_get l.cert.proofs j ≡ Some proof
    → ProvesClause l.design.coding l.design.design l.cert.kept l.cert.depth clause proof) l.cert.kept l.place
