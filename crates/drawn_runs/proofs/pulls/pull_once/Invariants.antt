use Rattle.std.proofs.Common.{◌≡◌, length}
use Rattle.drawn_runs.proofs.pulls.pull_once.Given as goal

abbrev pub invariant-loop-clause : goal.invariant-loop-clause
invariant-loop-clause l = length l.bits ≡ length l.initial.bits
