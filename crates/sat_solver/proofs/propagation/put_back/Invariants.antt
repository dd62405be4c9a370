use Rattle.std.proofs.Common.{◌≡◌, ℕ, true, length}
use Rattle.proof_log.specs.Clauses.{is_set}
use Rattle.sat_solver.specs.Watches.{watched}
use Rattle.sat_solver.proofs.propagation.put_back.Given as goal

-- the watches are on the literals that they were on
abbrev pub invariant-loop-watch : goal.invariant-loop-watch
invariant-loop-watch l = record {
  limit : l.watches.limit ≡ l.fn.watches.limit;
  literals : l.watches.literals ≡ l.fn.watches.literals;
  waits : (n : ℕ) → is_set l.watches.waiting n ≡ true → watched l.fn.watches.literals n ≡ l.falsified;
}

abbrev pub decreases-loop-watch : goal.decreases-loop-watch
decreases-loop-watch l = length l.watches.waiting
