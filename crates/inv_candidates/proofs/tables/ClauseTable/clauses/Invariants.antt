use Rattle.std.proofs.Common.{◌≡◌, map, take}
use Rattle.inv_candidates.specs.Listing.{clause_of_row}
use Rattle.inv_candidates.proofs.tables.ClauseTable.clauses.Given as goal

abbrev pub invariant-loop-k : goal.invariant-loop-k
invariant-loop-k l = l.clauses ≡ take l.k (map clause_of_row l.rows)
