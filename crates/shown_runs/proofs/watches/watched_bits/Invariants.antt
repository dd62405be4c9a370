use Rattle.std.proofs.Common.{◌≡◌, take}
use Rattle.shown_runs.specs.Watches as spec
use Rattle.shown_runs.proofs.watches.watched_bits.Given as goal

abbrev pub invariant-loop-cycle : goal.invariant-loop-cycle
invariant-loop-cycle l = l.bits ≡ spec.watched_bits l.design l.what (take l.cycle-index l.run)
