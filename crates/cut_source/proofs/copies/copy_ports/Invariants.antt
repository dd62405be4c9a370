use Rattle.std.proofs.Common.{◌≡◌, take}
use Rattle.cut_source.proofs.copies.copy_ports.Given as goal

abbrev pub invariant-loop-k : goal.invariant-loop-k
invariant-loop-k l = l.list ≡ take l.k l.ports
