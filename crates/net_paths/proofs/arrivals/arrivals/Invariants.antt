use Rattle.std.proofs.Common.{[]}
use Rattle.net_paths.specs.Arrivals.{Adds, ArrivesFrom}
use Rattle.net_paths.proofs.Arriving.{Before}
use Rattle.net_paths.proofs.arrivals.arrivals.Given as goal

abbrev pub invariant-loop-net : goal.invariant-loop-net
invariant-loop-net l = Adds (Before (ArrivesFrom l.reach l.places) l.reach.cone.now.nets.items l.net-index) [] l.found.items
