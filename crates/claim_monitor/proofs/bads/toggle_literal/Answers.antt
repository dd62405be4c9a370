use Rattle.std.proofs.Common.{ℕ, subst}
use Rattle.net_model.specs.Cycles.{bit_at}
use Rattle.and_graphs.specs.Graphs.{Means}
use Rattle.and_graphs.proofs.Growing.{keeps_on}
use Rattle.claim_monitor.specs.Fronts.{live_place, start_place}
use Rattle.claim_monitor.specs.Tells.{edge_bit}
use Rattle.claim_monitor.proofs.bads.toggle_literal.Goals as goal

pub returns-clause-keeps : goal.returns-clause-keeps
returns-clause-keeps c =
    keeps_on c.args.graph.now c.differs.new.self c.both-2.new.self c.differs.ensures.keeps
    (keeps_on c.differs.new.self c.both.new.self c.both-2.new.self c.both.ensures.keeps c.both-2.ensures.keeps)

pub returns-clause-means : goal.returns-clause-means
returns-clause-means c =
    λ some f m.
    let s = c.args.sizes.now in
    let first = c.args.graph.now in
    let live : Means first c.in_ok-was_live.was_live (λ x. bit_at x (live_place s)) =
    subst (λ (p : ℕ). Means first c.in_ok-was_live.was_live (λ x. bit_at x p)) c.live.ensures c.in_ok-was_live.ensures in
    let stale : Means first c.in_ok-stale.stale (λ x. bit_at x (start_place s 0)) =
    subst (λ (p : ℕ). Means first c.in_ok-stale.stale (λ x. bit_at x p)) c.starts.ensures c.in_ok-stale.ensures in
    let later = c.differs.ensures.keeps in
    let edge = c.edge_literal.ensures c.differs.new.self (λ x. bit_at x (start_place s 0))
    (later.means c.in_ok-stale.stale (λ x. bit_at x (start_place s 0)) stale) in
    let moves = c.in_ok-moves.ensures.means _ (λ x. edge_bit c.args.edge (bit_at x (start_place s 0)))
    (c.in_ok-differs.ensures.means f (λ x. bit_at x (start_place s 0)) m stale) edge in
    c.in_ok-toggles.ensures.means (λ x. bit_at x (live_place s)) _
    (c.both.ensures.keeps.means c.in_ok-was_live.was_live (λ x. bit_at x (live_place s)) (later.means c.in_ok-was_live.was_live
    (λ x. bit_at x (live_place s)) live)) moves
