use Rattle.proof_log.proofs.Normalizing.{IsFrontOf}
use Rattle.proof_log.proofs.clauses.each_once.Given as goal

abbrev pub invariant-loop-place : goal.invariant-loop-place
invariant-loop-place l = IsFrontOf l.initial.lits l.lits l.place l.kept
