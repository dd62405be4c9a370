use Rattle.std.proofs.Common.{◌≡◌, take}
use Rattle.inv_candidates.proofs.listings.Listing.first.Given as goal

abbrev pub invariant-loop-k : goal.invariant-loop-k
invariant-loop-k l = l.clauses ≡ take l.k l.self
