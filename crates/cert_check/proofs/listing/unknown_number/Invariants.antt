use Rattle.std.proofs.Common.{ℕ}
use Rattle.cert_values.specs.declared.certs.PairProof.{PairProof}
use Rattle.cert_defs.specs.Listed.{IsClaimNumber}
use Rattle.cert_check.proofs.Below.{EachBelow}
use Rattle.cert_check.proofs.listing.unknown_number.Given as goal

abbrev pub invariant-loop-place : goal.invariant-loop-place
invariant-loop-place l = EachBelow (λ (j : ℕ) (pair : PairProof). IsClaimNumber l.claims pair.number) l.pairs l.place
