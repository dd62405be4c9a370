use Rattle.std.proofs.Common.{length}
use Rattle.cert_check.proofs.Listings.{listed_of_marks}
use Rattle.cert_check.proofs.listing.well_listed.Goals as goal

pub returns-clause-numbers : goal.returns-clause-numbers
returns-clause-numbers c =
    listed_of_marks (length c.args.claims.now) c.args.cert.now.pairs c.in_ok-marks.marks c.in_ok-numbers.numbers c.in_ok-marks.ensures.ok
    c.in_ok-numbers.ensures
