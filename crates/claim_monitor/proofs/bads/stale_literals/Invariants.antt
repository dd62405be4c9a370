use Rattle.claim_monitor.proofs.Badness.{StalesDone}
use Rattle.claim_monitor.proofs.bads.stale_literals.Given as goal

abbrev pub invariant-loop-r : goal.invariant-loop-r
invariant-loop-r l = StalesDone l.sizes l.claim l.judged.start l.judged.toggle l.initial.graph l.graph l.some l.r
