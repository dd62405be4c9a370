use Rattle.std.proofs.Common.{◌≡◌, ℕ, ◌<◌, ◌+◌, Bool, List, length}
use Rattle.net_model.specs.Cycles.{bit_at}
use Rattle.claim_monitor.specs.Shown.{AreIn, shown_row}
use Rattle.claim_monitor.proofs.cycle_literals.variables.Given as goal

abbrev pub invariant-loop-k : goal.invariant-loop-k
invariant-loop-k l = record {
  len : length l.list ≡ l.k;
  in_ : AreIn l.graph l.list;
  shown : (x : List Bool) (j : ℕ) → length x ≡ l.graph.front → j < l.k → bit_at (shown_row l.graph x l.list) j ≡ bit_at x (l.first + j);
}
