use Rattle.std.proofs.Common.{◌≡◌, ℕ, arith, subst}
use Rattle.and_graphs.specs.Graphs.{Means}
use Rattle.claim_monitor.specs.Tells.{some_stale}
use Rattle.claim_monitor.proofs.Badness.{stales_none, stales_more}
use Rattle.claim_monitor.proofs.bads.stale_literals.Goals as goal

pub loop-r-init : goal.loop-r-init
loop-r-init c =
    stales_none c.args.sizes.now c.args.claim.now c.args.judged.now.start c.args.judged.now.toggle c.args.graph.now c.bit_literal-some.result
    (c.bit_literal-some.ensures c.args.graph.now)

pub loop-r-preserved : goal.loop-r-preserved
loop-r-preserved c =
    stales_more c.args.sizes.now c.args.claim.now c.args.judged.now.start c.args.judged.now.toggle c.args.graph.now c.loop-r.graph
    c.stale_literal.new.graph c.either.new.self c.loop-r.some c.in_ok-stale.stale c.in_ok-some.some c.loop-r.r (omega arith) c.in_ok-stale.ensures.keeps c.either.ensures.keeps
    c.in_ok-stale.ensures.means c.in_ok-some.ensures.means c.loop-r.invariant

pub returns-clause-means : goal.returns-clause-means
returns-clause-means c =
    λ cycle start toggle.
    let s = c.args.sizes.now in
    let claim = c.args.claim.now in
    let all : c.loop-r.r ≡ s.judged = omega arith in
    subst (λ (n : ℕ). Means c.loop-r.graph c.loop-r.some (λ x. some_stale s claim x (cycle x) n)) all (c.loop-r.invariant.means cycle start toggle)
