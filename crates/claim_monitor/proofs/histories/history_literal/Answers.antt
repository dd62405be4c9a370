use Rattle.std.proofs.Common.{◌+◌, ◌-◌}
use Rattle.net_model.specs.Cycles.{bit_at}
use Rattle.and_graphs.proofs.Growing.{means_same}
use Rattle.claim_monitor.specs.Histories.{taken}
use Rattle.claim_monitor.proofs.Showing.{means_self}
use Rattle.claim_monitor.proofs.HistoryLits.{taken_past}
use Rattle.claim_monitor.proofs.histories.history_literal.Goals as goal

pub returns-then-k-eq0 : goal.returns-then-k-eq0
returns-then-k-eq0 c = rw c.if-k-eq0.true (means_self c.args.graph.now c.args.now c.requires.now)

pub returns : goal.returns
returns c =
    means_same c.args.graph.now c.in_ok-before.before (λ x. bit_at x (c.args.first + (c.args.k - 1))) (taken c.args.graph.now c.args.now c.args.first c.args.k)
    (λ x len. taken_past c.args.graph.now c.args.now c.args.first c.args.k x c.if-k-eq0.false) c.in_ok-before.ensures
