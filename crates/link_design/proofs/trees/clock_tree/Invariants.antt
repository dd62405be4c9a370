use Rattle.std.proofs.Common.{◌-◌, ◌^◌}
use Rattle.link_design.specs.Walks.{IsWalkTo}
use Rattle.link_design.proofs.trees.clock_tree.Given as goal

abbrev pub invariant-loop-visited : goal.invariant-loop-visited
invariant-loop-visited l = IsWalkTo l.circuit l.visited l.walk

abbrev pub decreases-loop-visited : goal.decreases-loop-visited
decreases-loop-visited l = 2 ^ 64 - l.visited
