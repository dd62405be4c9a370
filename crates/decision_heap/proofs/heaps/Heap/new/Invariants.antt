use Rattle.std.proofs.Common.{◌≡◌, ℕ, ◌<◌, ◌≤◌, true}
use Rattle.proof_log.specs.Clauses.{is_set}
use Rattle.decision_heap.proofs.heaps.Heap.new.Given as goal

-- the variables so far wait
abbrev pub invariant-loop-var : goal.invariant-loop-var
invariant-loop-var l = record {
  vars : l.heap.vars ≡ l.vars;
  all : (v : ℕ) → 1 ≤ v → v < l.var → is_set l.heap.inside v ≡ true;
}
