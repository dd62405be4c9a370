use Rattle.std.proofs.Common.{◌≡◌, map, take}
use Rattle.inv_candidates.specs.Listing.{lit_of}
use Rattle.inv_candidates.proofs.tables.clause_of_row.Given as goal

abbrev pub invariant-loop-k : goal.invariant-loop-k
invariant-loop-k l = l.lits ≡ map lit_of (take l.k l.items)
