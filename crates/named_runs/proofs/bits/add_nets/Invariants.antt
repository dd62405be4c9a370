use Rattle.std.proofs.Common.{◌≡◌, ◌++◌, map, take}
use Rattle.named_runs.specs.NamedBits as spec
use Rattle.named_runs.proofs.bits.add_nets.Given as goal

abbrev pub invariant-loop-net : goal.invariant-loop-net
invariant-loop-net l = l.bits.items ≡ l.fn.bits.items ++ map (spec.net_bit l.run) (take l.net-index l.nets)
