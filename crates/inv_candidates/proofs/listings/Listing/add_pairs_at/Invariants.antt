use Rattle.std.proofs.Common.{◌+◌, ◌-◌, take, drop, flat_map}
use Rattle.inv_candidates.specs.Clauses.{pair_clauses}
use Rattle.inv_candidates.specs.Listing.{AddsNew}
use Rattle.inv_candidates.proofs.listings.Listing.add_pairs_at.Given as goal

abbrev pub invariant-loop-k : goal.invariant-loop-k
invariant-loop-k l =
    AddsNew l.fn.self (flat_map (pair_clauses l.reg) (take (l.k - (l.place + 1)) (drop (l.place + 1) l.group))) l.self
