use Rattle.std.proofs.Common.{List, drop}
use Rattle.net_model.specs.declared.invariants.InvClause.{InvClause}
use Rattle.inv_candidates.specs.Clauses.{all_pairs}
use Rattle.inv_candidates.specs.Listing.{AddsNew}
use Rattle.inv_candidates.proofs.listings.Listing.add_pairs.Given as goal

-- whatever the rest of the pairs makes of the list, all pairs make of the first one
abbrev pub invariant-loop-k : goal.invariant-loop-k
invariant-loop-k l = (end_ : List InvClause) → AddsNew l.self (all_pairs (drop l.k l.group)) end_ → AddsNew l.fn.self (all_pairs l.group) end_
