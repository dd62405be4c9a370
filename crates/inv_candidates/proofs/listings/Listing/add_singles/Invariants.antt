use Rattle.std.proofs.Common.{take, flat_map}
use Rattle.inv_candidates.specs.Clauses.{single_clauses}
use Rattle.inv_candidates.specs.Listing.{AddsNew}
use Rattle.inv_candidates.proofs.listings.Listing.add_singles.Given as goal

abbrev pub invariant-loop-k : goal.invariant-loop-k
invariant-loop-k l = AddsNew l.fn.self (flat_map single_clauses (take l.k l.group)) l.self
