use Rattle.std.proofs.Common.{◌≡◌, ℕ, arith, subst}
use Rattle.claim_monitor.specs.Histories.{IsHistory}
use Rattle.claim_monitor.proofs.HistoryLits.{history_none, history_more}
use Rattle.claim_monitor.proofs.histories.history.Goals as goal

pub loop-k-init : goal.loop-k-init
loop-k-init c = rw c.new-row.ensures (history_none c.args.graph.now c.args.now c.args.first)

pub loop-k-preserved : goal.loop-k-preserved
loop-k-preserved c =
    rw c.in_ok-push.ensures.ok (history_more c.args.graph.now c.args.now c.args.first c.loop-k.k c.loop-k.row c.in_ok-literal.literal c.in_ok-literal.ensures
    c.loop-k.invariant)

pub returns : goal.returns
returns c =
    let all : c.loop-k.k ≡ c.args.count = omega arith in
    subst (λ (n : ℕ). IsHistory c.args.graph.now c.args.now c.args.first n c.loop-k.row) all c.loop-k.invariant
