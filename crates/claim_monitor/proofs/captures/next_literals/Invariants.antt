use Rattle.claim_monitor.proofs.CaptureLits.{NextsDone}
use Rattle.claim_monitor.proofs.captures.next_literals.Given as goal

abbrev pub invariant-loop-r : goal.invariant-loop-r
invariant-loop-r l = NextsDone l.design l.literals l.initial.graph l.graph l.list l.r
