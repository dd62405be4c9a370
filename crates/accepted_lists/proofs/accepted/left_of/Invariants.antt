use Rattle.std.proofs.Common.{◌≡◌, ◌-◌, map, take}
use Rattle.std.specs.Prelude.{sum}
use Rattle.accepted_lists.specs.Accepted.{added}
use Rattle.accepted_lists.proofs.accepted.left_of.Given as goal

abbrev pub invariant-loop-other : goal.invariant-loop-other
invariant-loop-other l = l.left ≡ l.pairs - sum (map (added l.head l.entry) (take l.other-index l.entries))
