use Rattle.cert_check.specs.Listing.{AreMarked}
use Rattle.cert_check.proofs.listing.marked_numbers.Given as goal

abbrev pub invariant-loop-place : goal.invariant-loop-place
invariant-loop-place l = AreMarked l.marks l.place l.numbers
