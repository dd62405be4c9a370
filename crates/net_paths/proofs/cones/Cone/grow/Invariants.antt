use Rattle.std.proofs.Common.{◌-◌, ◌^◌}
use Rattle.net_paths.specs.Cones.{IsGrowing}
use Rattle.net_paths.proofs.cones.Cone.grow.Given as goal

abbrev pub invariant-loop-self : goal.invariant-loop-self
invariant-loop-self l = IsGrowing l.launch.design.now l.launch.start.now l.launch.sets.now l.self l.self.told

abbrev pub decreases-loop-self : goal.decreases-loop-self
decreases-loop-self l = 2 ^ 63 - l.self.told
