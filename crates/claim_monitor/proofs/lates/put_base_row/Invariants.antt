use Rattle.claim_monitor.proofs.LateLits.{BaseLitsDone}
use Rattle.claim_monitor.proofs.lates.put_base_row.Given as goal

abbrev pub invariant-loop-n : goal.invariant-loop-n
invariant-loop-n l = BaseLitsDone l.sets l.layer l.base l.initial.rows l.rows l.n
