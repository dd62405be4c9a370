use Rattle.net_paths.specs.Readers.{readers_at}
use Rattle.net_paths.specs.Arrivals.{Adds, IsArrival}
use Rattle.net_paths.proofs.Arriving.{Before}
use Rattle.net_paths.proofs.arrivals.add_net.Given as goal

abbrev pub invariant-loop-pin : goal.invariant-loop-pin
invariant-loop-pin l =
    Adds (Before (IsArrival l.reach l.places l.net) (readers_at l.reach.readers.now.rows.items l.net) l.pin-index) l.fn.found.items l.found.items
