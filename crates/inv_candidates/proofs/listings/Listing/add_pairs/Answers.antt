use Rattle.std.proofs.Common.{arith, ◌<◌, ◌+◌, List, length, drop, flat_map, sym, subst}
use Rattle.std.specs.Prelude.{slice_index}
use Rattle.net_model.specs.declared.invariants.InvClause.{InvClause}
use Rattle.inv_candidates.specs.Clauses.{pair_clauses, all_pairs}
use Rattle.inv_candidates.specs.Listing.{AddsNew, No_more}
use Rattle.inv_candidates.proofs.Adding.{adds_both, pairs_from, no_pairs}
use Rattle.inv_candidates.proofs.listings.Listing.add_pairs.Goals as goal

pub loop-k-preserved : goal.loop-k-preserved
loop-k-preserved c = λ end_ adds.
    let group = c.args.group.now in
    let k = c.loop-k.k in
    let low : k < length group = omega arith in
    c.loop-k.invariant end_ (subst (λ (l : List InvClause). AddsNew c.loop-k.self l end_) (sym (pairs_from group k low))
    (adds_both c.loop-k.self (flat_map (pair_clauses (slice_index group k)) (drop (k + 1) group)) c.add_pairs_at.new.self
    (all_pairs (drop (k + 1) group)) end_ c.in_ok-add_pairs_at.ensures adds))

pub returns : goal.returns
returns c =
    c.loop-k.invariant c.loop-k.self (subst (λ (l : List InvClause). AddsNew c.loop-k.self l c.loop-k.self)
    (sym (no_pairs c.args.group.now c.loop-k.k (omega arith))) (No_more c.loop-k.self))
