use Rattle.std.proofs.Common.{◌≡◌, length}
use Rattle.drawn_runs.proofs.pulls.pull_clause.Given as goal

abbrev pub invariant-loop-lit : goal.invariant-loop-lit
invariant-loop-lit l = length l.bits ≡ length l.initial.bits
