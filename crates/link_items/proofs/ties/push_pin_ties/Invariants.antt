use Rattle.std.proofs.Common.{◌≡◌, ◌++◌, take}
use Rattle.link_defs.specs.Parts.{pin_ties}
use Rattle.link_items.proofs.ties.push_pin_ties.Given as goal

abbrev pub invariant-loop-k : goal.invariant-loop-k
invariant-loop-k l = l.parts ≡ l.fn.parts ++ pin_ties l.conns l.own (take l.k l.pins)
