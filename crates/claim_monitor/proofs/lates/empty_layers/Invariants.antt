use Rattle.claim_monitor.proofs.LateLits.{AreEmptyRows}
use Rattle.claim_monitor.proofs.lates.empty_layers.Given as goal

abbrev pub invariant-loop : goal.invariant-loop
invariant-loop l = AreEmptyRows l.design.nets l.rows l.counter
