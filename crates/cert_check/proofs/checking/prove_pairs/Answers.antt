use Rattle.std.proofs.Common.{◌≡◌, ℕ, Some, arith}
use Rattle.net_model.specs.Fits.{Fits}
use Rattle.net_model.proofs.Settling.{All-at}
use Rattle.net_model.specs.declared.claims.Claim.{Claim}
use Rattle.verdicts.specs.Certified.{ProvesPair}
use Rattle.cert_values.specs.Certs.{HasBases}
use Rattle.cert_values.specs.declared.certs.PairProof.{PairProof}
use Rattle.cert_defs.specs.Listed.{item_numbered}
use Rattle.cert_defs.proofs.Holding.{All-numbered}
use Rattle.cert_check.proofs.Below.{each_of}
use Rattle.cert_check.proofs.Listings.{number_known}
use Rattle.cert_check.proofs.checking.prove_pairs.Goals as goal

pub claim_of-claim-requires : goal.claim_of-claim-requires
claim_of-claim-requires c =
    number_known c.args.claims.now c.args.cert.now.pairs c.loop-place.place c.item-pair.result.now c.requires.listed.known c.item-pair.ensures

pub prove_claim-requires-clause-fits : goal.prove_claim-requires-clause-fits
prove_claim-requires-clause-fits c =
    All-numbered (Fits c.args.design.now.design) c.args.claims.now c.item-pair.result.now.number c.claim_of-claim.result.now c.claim_of-claim.ensures
    c.requires.fit

pub prove_claim-requires-clause-bases : goal.prove_claim-requires-clause-bases
prove_claim-requires-clause-bases c =
    All-at (λ (p : PairProof). HasBases p.proof) c.args.cert.now.pairs c.loop-place.place c.item-pair.result.now c.item-pair.ensures
    c.requires.complete.pairs

pub returns-clause-ok : goal.returns-clause-ok
returns-clause-ok c ok pair claim listed =
    each_of (λ (j : ℕ) (p : PairProof). (x : Claim) → item_numbered c.args.claims.now p.number ≡ Some x
    → ProvesPair c.args.design.now.coding c.args.design.now.design c.args.cert.now.kept x p.proof) c.args.cert.now.pairs
    c.loop-place.place c.loop-place.invariant
    (omega (arith, c.loop-place-test.false, c.len-place-end.ensures)) listed.place pair listed.at claim listed.claim_at
