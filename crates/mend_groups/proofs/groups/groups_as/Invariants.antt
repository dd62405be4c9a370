use Rattle.std.proofs.Common.{◌≡◌, ◌≤◌, ◌-◌, drop, length}
use Rattle.mend_groups.specs.Groups.{grouped, stars_of, groups_as}
use Rattle.mend_groups.proofs.groups.groups_as.Given as goal

abbrev pub invariant-loop-place : goal.invariant-loop-place
invariant-loop-place l = record {
  within : l.place ≤ length l.written.items;
  made : grouped l.groups.items (stars_of (drop l.place l.written.items)) ≡ groups_as l.fn.sides l.rows;
}

abbrev pub decreases-loop-place : goal.decreases-loop-place
decreases-loop-place l = length l.written.items - l.place
