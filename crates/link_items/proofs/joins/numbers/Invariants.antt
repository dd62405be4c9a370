use Rattle.std.proofs.Common.{◌≡◌}
use Rattle.link_defs.specs.Flatten.{numbers}
use Rattle.link_items.proofs.joins.numbers.Given as goal

abbrev pub invariant-loop-k : goal.invariant-loop-k
invariant-loop-k l = l.list ≡ numbers l.first l.k
