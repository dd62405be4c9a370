use Rattle.std.proofs.Common.{◌≡◌, ◌<◌, ℕ, List, Some}
use Rattle.std.specs.Prelude.{slice_get}
use Rattle.net_model.specs.declared.cycles.Cycle.{Cycle}
use Rattle.induction.specs.Bases.{FailsLive}
use Rattle.induction.proofs.pools.Pool.fails.Given as goal

abbrev pub invariant-loop-k : goal.invariant-loop-k
invariant-loop-k l = (j : ℕ) (run : List Cycle) → j < l.k → slice_get l.self.runs j ≡ Some run → ¬ FailsLive l.design.reset_len run l.clause
