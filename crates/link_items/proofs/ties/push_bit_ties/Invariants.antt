use Rattle.std.proofs.Common.{◌≡◌, ◌++◌, drop}
use Rattle.link_defs.specs.Parts.{bit_ties}
use Rattle.link_items.proofs.ties.push_bit_ties.Given as goal

abbrev pub invariant-loop-k : goal.invariant-loop-k
invariant-loop-k l = l.fn.parts ++ bit_ties l.first l.bits l.wires ≡ l.parts ++ bit_ties l.first (drop l.k l.bits) (drop l.k l.wires)
