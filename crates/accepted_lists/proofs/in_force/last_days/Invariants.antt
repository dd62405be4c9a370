use Rattle.std.proofs.Common.{◌≡◌, take}
use Rattle.std.specs.Prelude.{flat_map}
use Rattle.accepted_lists.specs.InForce.{last_days}
use Rattle.accepted_lists.proofs.in_force.last_days.Given as goal

abbrev pub invariant-loop-line : goal.invariant-loop-line
invariant-loop-line l = l.out ≡ flat_map last_days (take l.line-index l.lines)
