use Rattle.std.proofs.Common.{List, length, subst, sym}
use Rattle.std.specs.Prelude.{Contains}
use Rattle.std.proofs.lemmas.Iterator.Adapters.{YieldsList-from_vec}
use Rattle.std.proofs.lemmas.Iterator.Consumers.{YieldsList-turn}
use Rattle.query_model.specs.declared.keys.Cube.{Cube}
use Rattle.prime_cubes.proofs.implicants.primes.Goals as goal

pub is_prime-requires-clause-constant : goal.is_prime-requires-clause-constant
is_prime-requires-clause-constant c =
    let all : List Cube = c.in_ok-cube-items.cube-items.items in
    let t = YieldsList-turn (YieldsList-from_vec {s = c.into_iter-cube-iterator.result} all (cc) (cc)) c.loop-cube.yielded c.loop-cube.cube-iterator c.loop-cube.yielded_by c.next.result c.next.new.self c.in-Some.cube c.in-Some.is c.next.ensures.steps in
    subst (λ (xs : List Cube). Contains xs c.in-Some.cube) c.in_ok-cube-items.ensures (length c.loop-cube.yielded, t.0, sym t.1)
