use Rattle.cnf_encode.proofs.Running.{InputsSoFar}
use Rattle.cnf_encode.proofs.runs.stimulus_of.Given as goal

abbrev pub invariant-loop-t : goal.invariant-loop-t
invariant-loop-t l = InputsSoFar l.design l.problem.frames l.model.values l.problem.live l.inputs l.t
