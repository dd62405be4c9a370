use Rattle.std.proofs.Common.{◌≡◌, filter}
use Rattle.net_model.specs.Form.{value}
use Rattle.query_model.specs.Tables.{constant_cubes}
use Rattle.query_model.specs.Defined.{is_prime}
use Rattle.prime_cubes.proofs.implicants.primes.Given as goal

abbrev pub invariant-loop-cube : goal.invariant-loop-cube
invariant-loop-cube l = l.found.items ≡ filter (is_prime (constant_cubes (value l.func) l.places)) l.yielded
