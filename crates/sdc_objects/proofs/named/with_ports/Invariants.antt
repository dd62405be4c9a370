use Rattle.std.proofs.Common.{◌≡◌, flat_map, take}
use Rattle.sdc_objects.specs.Standing as spec
use Rattle.sdc_objects.proofs.named.with_ports.Given as goal

abbrev pub invariant-loop-k : goal.invariant-loop-k
invariant-loop-k l = l.named ≡ flat_map spec.with_ports (take l.k l.things)
