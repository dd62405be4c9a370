use Rattle.std.proofs.Common.{arith, ◌≤◌, length}
use Rattle.net_paths.proofs.Growing.{grown_levels}
use Rattle.net_paths.proofs.cones.Cone.grow.Goals as goal

pub returns-clause-levels : goal.returns-clause-levels
returns-clause-levels c = λ net low.
    let past : length c.loop-self.self.nets.items ≤ c.loop-self.self.told = omega (arith, c.len.ensures, c.loop-self-test.false) in
    grown_levels c.args.launch.now.design.now c.args.launch.now.start.now c.args.launch.now.sets.now c.loop-self.self c.loop-self.self.told past
    c.loop-self.invariant net
