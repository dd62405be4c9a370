use Rattle.std.proofs.Common.{◌≡◌, ◌<◌, ◌≤◌, ℕ, true, Some}
use Rattle.std.specs.Prelude.{slice_get}
use Rattle.net_model.specs.Queries.{clause_holds}
use Rattle.net_model.specs.declared.cycles.Cycle.{Cycle}
use Rattle.induction.proofs.bases.fails_live.Given as goal

abbrev pub invariant-loop-t : goal.invariant-loop-t
invariant-loop-t l = (k : ℕ) (c : Cycle) → l.live ≤ k → k < l.t → slice_get l.run k ≡ Some c → clause_holds c l.clause ≡ true
