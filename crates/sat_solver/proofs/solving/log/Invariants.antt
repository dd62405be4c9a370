use Rattle.std.proofs.Common.{◌-◌, length}
use Rattle.sat_solver.specs.Answers.{formula_of}
use Rattle.sat_solver.proofs.Logging.{LogSoFar}
use Rattle.sat_solver.proofs.solving.log.Given as goal

-- the engine holds the formula's clauses and those of the log
abbrev pub invariant-loop-conflict : goal.invariant-loop-conflict
invariant-loop-conflict l = LogSoFar (formula_of l.fn.engine) l.budget l.engine.vars l.engine.clauses l.steps

abbrev pub decreases-loop-conflict : goal.decreases-loop-conflict
decreases-loop-conflict l = l.budget - length l.steps
