use Rattle.claim_monitor.specs.Histories.{IsHistory}
use Rattle.claim_monitor.proofs.histories.history.Given as goal

abbrev pub invariant-loop-k : goal.invariant-loop-k
invariant-loop-k l = IsHistory l.graph l.now l.first l.k l.row
