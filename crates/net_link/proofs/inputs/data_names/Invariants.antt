use Rattle.std.proofs.Common.{◌≡◌, take}
use Rattle.net_link.specs.Data.{data_ports}
use Rattle.net_link.proofs.inputs.data_names.Given as goal

abbrev pub invariant-loop-k : goal.invariant-loop-k
invariant-loop-k l = l.list ≡ data_ports l.clock (take l.k l.ports)
