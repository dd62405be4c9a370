use Rattle.std.proofs.Common.{◌≡◌, take}
use Rattle.link_defs.specs.Parts.{wire_nets}
use Rattle.link_items.proofs.nets.wire_nets.Given as goal

abbrev pub invariant-loop-k : goal.invariant-loop-k
invariant-loop-k l = l.list ≡ wire_nets l.nets l.first (take l.k l.wires)
