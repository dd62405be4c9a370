use Rattle.std.proofs.Common.{take}
use Rattle.inv_candidates.specs.Listing.{AddsNew}
use Rattle.inv_candidates.proofs.tables.ClauseTable.add_all.Given as goal

abbrev pub invariant-loop-k : goal.invariant-loop-k
invariant-loop-k l = AddsNew l.fn.self (take l.k l.clauses) l.self
