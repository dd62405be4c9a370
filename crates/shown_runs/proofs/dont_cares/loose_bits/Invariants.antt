use Rattle.std.proofs.Common.{◌≡◌, map}
use Rattle.std.specs.List.{range_with_len}
use Rattle.shown_runs.specs.DontCares.{loose_in}
use Rattle.shown_runs.proofs.dont_cares.loose_bits.Given as goal

abbrev pub invariant-loop-cycle : goal.invariant-loop-cycle
invariant-loop-cycle l = l.bits ≡ map (loose_in l.design l.free) (range_with_len 0 l.cycle)
