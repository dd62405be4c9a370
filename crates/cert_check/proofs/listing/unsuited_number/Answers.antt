use Rattle.std.proofs.Common.{◌≡◌, ℕ, Some, arith}
use Rattle.net_model.specs.declared.claims.Claim.{Claim}
use Rattle.cert_values.specs.declared.certs.PairProof.{PairProof}
use Rattle.cert_defs.specs.Listed.{item_numbered, Suits}
use Rattle.cert_check.proofs.Below.{each_of}
use Rattle.cert_check.proofs.Listings.{number_known}
use Rattle.cert_check.proofs.listing.unsuited_number.Goals as goal

pub claim_of-requires : goal.claim_of-requires
claim_of-requires c =
    number_known c.args.claims.now c.args.pairs.now c.loop-place.place c.item-pair.result.now c.requires.known c.item-pair.ensures

pub returns : goal.returns
returns c pair claim listed =
    each_of (λ (j : ℕ) (p : PairProof). (x : Claim) → item_numbered c.args.claims.now p.number ≡ Some x → Suits c.args.design.now x p.proof)
    c.args.pairs.now c.loop-place.place c.loop-place.invariant (omega (arith, c.loop-place-test.false, c.len-place-end.ensures)) listed.place pair
    listed.at claim listed.claim_at
