use Rattle.std.proofs.Common.{◌≡◌, ◌+◌, ◌-◌, length}
use Rattle.sat_solver.proofs.solving.search.Given as goal

-- the clauses stay
abbrev pub invariant-loop-place : goal.invariant-loop-place
invariant-loop-place l = record {
  vars : l.engine.vars ≡ l.initial.engine.vars;
  clauses : l.engine.clauses ≡ l.initial.engine.clauses;
}

abbrev pub decreases-loop-place : goal.decreases-loop-place
decreases-loop-place l = l.engine.vars + 1 - length l.engine.lits
