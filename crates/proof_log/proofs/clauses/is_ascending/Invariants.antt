use Rattle.proof_log.proofs.Ascending.{IsNormalSoFar}
use Rattle.proof_log.proofs.clauses.is_ascending.Given as goal

abbrev pub invariant-loop-l : goal.invariant-loop-l
invariant-loop-l l = IsNormalSoFar l.vars l.lits l.l-index l.before
