use Rattle.std.proofs.Common.{sym}
use Rattle.sat_solver.proofs.Queueing.{floor_suc}
use Rattle.sat_solver.proofs.learning.floor_of.Goals as goal

pub returns : goal.returns
returns c = sym (floor_suc c.args.starts.now c.args.level c.if-level-eq0.false)
