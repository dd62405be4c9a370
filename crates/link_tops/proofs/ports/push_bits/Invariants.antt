use Rattle.std.proofs.Common.{◌≡◌, ◌++◌, map, take}
use Rattle.link_tops.specs.Ports.{bit_name}
use Rattle.link_tops.proofs.ports.push_bits.Given as goal

abbrev pub invariant-loop-k : goal.invariant-loop-k
invariant-loop-k l = l.list ≡ l.fn.list ++ map (bit_name l.body l.port) (take l.k l.port.bits)
