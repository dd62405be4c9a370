use Rattle.std.proofs.Common.{◌≡◌, ◌+◌, drop}
use Rattle.mend_groups.specs.Groups.{run_of}
use Rattle.mend_groups.proofs.groups.run_of.Given as goal

abbrev pub invariant-loop-k : goal.invariant-loop-k
invariant-loop-k l = run_of l.start l.rows ≡ l.k + run_of l.start (drop l.k l.rows)
