use Rattle.std.proofs.Common.{◌≡◌, ℕ, Some}
use Rattle.net_model.specs.declared.claims.Claim.{Claim}
use Rattle.cert_values.specs.declared.certs.PairProof.{PairProof}
use Rattle.cert_defs.specs.Listed.{item_numbered, Suits}
use Rattle.cert_check.proofs.Below.{EachBelow}
use Rattle.cert_check.proofs.listing.unsuited_number.Given as goal

abbrev pub invariant-loop-place : goal.invariant-loop-place
invariant-loop-place l =
    EachBelow (λ (j : ℕ) (pair : PairProof). (claim : Claim) → item_numbered l.claims pair.number ≡ Some claim
    → Suits l.design claim pair.proof) l.pairs l.place
