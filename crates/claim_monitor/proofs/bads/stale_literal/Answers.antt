use Rattle.std.proofs.Common.{◌≡◌, ◌∙◌, ◌+◌, ◌&&◌, sym, ap, arith}
use Rattle.net_model.specs.Form.{xor}
use Rattle.net_model.specs.Cycles.{bit_at}
use Rattle.net_model.specs.Judge.{start_bit}
use Rattle.and_graphs.proofs.Growing.{means_same, keeps_on}
use Rattle.claim_monitor.specs.Fronts.{start_place}
use Rattle.claim_monitor.specs.Tells.{toggled, stale_bit}
use Rattle.claim_monitor.proofs.Badness.{stale_plain, stale_late}
use Rattle.claim_monitor.proofs.bads.stale_literal.Goals as goal

pub returns-then-not-has_late-clause-means : goal.returns-then-not-has_late-clause-means
returns-then-not-has_late-clause-means c =
    λ cycle start toggle.
    let s = c.args.sizes.now in
    let claim = c.args.claim.now in
    means_same c.args.graph.now c.in_ok-toggle.toggle (λ x. toggled s claim.edge claim.start x (cycle x) c.args.r) (λ x. stale_bit s claim x (cycle x) c.args.r)
    (λ x len. stale_plain s claim x (cycle x) c.args.r (sym c.has_late.ensures ∙ c.if-not-has_late.true))
    (c.in_ok-toggle.ensures claim.edge claim.start cycle toggle)

pub returns-clause-keeps : goal.returns-clause-keeps
returns-clause-keeps c = keeps_on c.args.graph.now c.differs.new.self c.both.new.self c.differs.ensures.keeps c.both.ensures.keeps

pub returns-clause-means : goal.returns-clause-means
returns-clause-means c =
    λ cycle start toggle.
    let s = c.args.sizes.now in
    let claim = c.args.claim.now in
    let r = c.args.r in
    let g = c.args.graph.now in
    let place : c.starts.result + r ≡ start_place s r = omega (arith, c.starts.ensures) in
    let stale = means_same g c.in_ok-stale.stale (λ x. bit_at x (c.starts.result + r)) (λ x. bit_at x (start_place s r)) (λ x len. ap (bit_at x) place)
    c.in_ok-stale.ensures in
    let differs = c.in_ok-differs.ensures.means (λ x. start_bit claim.start (cycle x)) (λ x. bit_at x (start_place s r)) start stale in
    let toggles = c.differs.ensures.keeps.means c.in_ok-toggle.toggle (λ x. toggled s claim.edge claim.start x (cycle x) r)
    (c.in_ok-toggle.ensures claim.edge claim.start cycle toggle) in
    means_same c.both.new.self c.in_ok-both.both
    (λ x. toggled s claim.edge claim.start x (cycle x) r && xor (start_bit claim.start (cycle x)) (bit_at x (start_place s r)))
    (λ x. stale_bit s claim x (cycle x) r)
    (λ x len. stale_late s claim x (cycle x) r (sym c.has_late.ensures ∙ c.if-not-has_late.false))
    (c.in_ok-both.ensures.means (λ x. toggled s claim.edge claim.start x (cycle x) r)
    (λ x. xor (start_bit claim.start (cycle x)) (bit_at x (start_place s r))) toggles differs)
