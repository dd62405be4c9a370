use Rattle.std.proofs.Common.{◌≡◌, ℕ, Some}
use Rattle.net_model.specs.declared.claims.Claim.{Claim}
use Rattle.verdicts.specs.Certified.{ProvesPair}
use Rattle.cert_values.specs.declared.certs.PairProof.{PairProof}
use Rattle.cert_defs.specs.Listed.{item_numbered}
use Rattle.cert_check.proofs.Below.{EachBelow}
use Rattle.cert_check.proofs.checking.prove_pairs.Given as goal

abbrev pub invariant-loop-place : goal.invariant-loop-place
invariant-loop-place l =
    EachBelow (λ (j : ℕ) (pair : PairProof). (claim : Claim) → item_numbered l.claims pair.number ≡ Some claim
    → ProvesPair l.design.coding l.design.design l.cert.kept claim pair.proof) l.cert.pairs l.place
