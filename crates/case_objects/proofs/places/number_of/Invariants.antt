use Rattle.std.proofs.Common.{◌≡◌, ℕ, ◌<◌, false}
use Rattle.std.specs.Prelude.{slice_get, Some, ◌==◌}
use Rattle.case_objects.proofs.places.number_of.Given as goal

abbrev pub invariant-loop-k : goal.invariant-loop-k
invariant-loop-k l = (i n : ℕ) → i < l.k → slice_get l.nets i ≡ Some n → (n == l.net) ≡ false
