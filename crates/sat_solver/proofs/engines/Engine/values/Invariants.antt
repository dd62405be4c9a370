use Rattle.std.proofs.Common.{◌-◌}
use Rattle.sat_solver.proofs.Models.{ValuesOf}
use Rattle.sat_solver.proofs.engines.Engine.values.Given as goal

-- the values so far are those of the set literals
abbrev pub invariant-loop-var : goal.invariant-loop-var
invariant-loop-var l = ValuesOf l.self-inside.trail.lits (l.var - 1) l.values
