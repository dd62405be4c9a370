use Rattle.std.proofs.Common.{◌≡◌}
use Rattle.link_defs.specs.Flatten.{numbers}
use Rattle.link_circuit.proofs.flats.numbers.Given as goal

abbrev pub invariant-loop-k : goal.invariant-loop-k
invariant-loop-k l = l.list ≡ numbers 0 l.k
