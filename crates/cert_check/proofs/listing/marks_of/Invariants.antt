use Rattle.std.proofs.Common.{length, take}
use Rattle.cert_values.specs.Certs.{listed_numbers}
use Rattle.cert_check.specs.Listing.{AreMarksOf}
use Rattle.cert_check.proofs.listing.marks_of.Given as goal

abbrev pub invariant-loop-k : goal.invariant-loop-k
invariant-loop-k l = AreMarksOf (length l.claims) (take l.k (listed_numbers l.pairs)) l.marks
