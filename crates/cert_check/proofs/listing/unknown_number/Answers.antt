use Rattle.std.proofs.Common.{arith}
use Rattle.cert_check.proofs.Listings.{known_of_pairs}
use Rattle.cert_check.proofs.listing.unknown_number.Goals as goal

pub returns : goal.returns
returns c =
    known_of_pairs c.args.claims.now c.args.pairs.now c.loop-place.place c.loop-place.invariant
    (omega (arith, c.loop-place-test.false, c.len-place-end.ensures))
