use Rattle.std.proofs.Common.{◌≡◌, ◌++◌, take}
use Rattle.link_defs.specs.Parts.{ties}
use Rattle.link_items.proofs.ties.push_ties.Given as goal

abbrev pub invariant-loop-k : goal.invariant-loop-k
invariant-loop-k l = l.parts ≡ l.fn.parts ++ ties l.own (take l.k l.wires)
