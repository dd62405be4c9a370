use Rattle.std.proofs.Common.{◌≡◌, ◌<◌, ℕ, false}
use Rattle.net_model.specs.Form.{value}
use Rattle.prime_cubes.specs.Freeing.{can_free}
use Rattle.prime_cubes.proofs.implicants.is_prime.Given as goal

abbrev pub invariant-loop-place : goal.invariant-loop-place
invariant-loop-place l = (i : ℕ) → i < l.place → can_free (value l.func) l.fixed i ≡ false
