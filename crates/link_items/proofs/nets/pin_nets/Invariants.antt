use Rattle.std.proofs.Common.{◌≡◌, take}
use Rattle.link_defs.specs.Parts.{pin_nets}
use Rattle.link_items.proofs.nets.pin_nets.Given as goal

abbrev pub invariant-loop-k : goal.invariant-loop-k
invariant-loop-k l = l.list ≡ pin_nets l.nets l.conns l.own (take l.k l.pins)
