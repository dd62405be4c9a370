use Rattle.std.proofs.Common.{◌≡◌, map, take}
use Rattle.inv_candidates.specs.Listing.{lit_of}
use Rattle.inv_candidates.proofs.tables.row_of.Given as goal

abbrev pub invariant-loop-k : goal.invariant-loop-k
invariant-loop-k l = map lit_of l.row.items ≡ take l.k l.clause.lits
