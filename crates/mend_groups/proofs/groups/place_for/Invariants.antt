use Rattle.std.proofs.Common.{◌≡◌, ◌++◌, take, drop}
use Rattle.mend_groups.specs.Groups.{with_star}
use Rattle.mend_groups.proofs.groups.place_for.Given as goal

abbrev pub invariant-loop-k : goal.invariant-loop-k
invariant-loop-k l = with_star l.groups l.star ≡ take l.k l.groups ++ with_star (drop l.k l.groups) l.star
