use Rattle.std.proofs.Common.{ℕ, subst}
use Rattle.net_model.specs.Cycles.{bit_at}
use Rattle.and_graphs.specs.Graphs.{Means}
use Rattle.claim_monitor.specs.Fronts.{early_place}
use Rattle.claim_monitor.proofs.bads.early_bad_literal.Goals as goal

pub returns-clause-means : goal.returns-clause-means
returns-clause-means c =
    λ f m.
    let g = c.args.graph.now in
    let differed = c.in_ok-differed.differed in
    c.in_ok-bad.ensures.means f (λ x. bit_at x (early_place c.args.sizes.now)) m
    (subst (λ (p : ℕ). Means g differed (λ x. bit_at x p)) c.early.ensures c.in_ok-differed.ensures)
