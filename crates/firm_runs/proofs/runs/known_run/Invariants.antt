use Rattle.firm_runs.proofs.Runs3.{RunSoFar3}
use Rattle.firm_runs.proofs.runs.known_run.Given as goal

abbrev pub invariant-loop-t : goal.invariant-loop-t
invariant-loop-t l = RunSoFar3 l.design l.free l.stimulus l.run l.bits l.t
