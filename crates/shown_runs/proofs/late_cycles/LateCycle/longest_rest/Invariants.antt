use Rattle.shown_runs.specs.LateCycles.{IsRest}
use Rattle.shown_runs.proofs.late_cycles.LateCycle.longest_rest.Given as goal

abbrev pub invariant-loop-k : goal.invariant-loop-k
invariant-loop-k l = IsRest l.self l.source l.nets.items
