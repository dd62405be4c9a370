use Rattle.std.proofs.Common.{◌≡◌, map, take}
use Rattle.named_runs.specs.NamedBits.{place_bit}
use Rattle.named_runs.proofs.places.values_of.Given as goal

abbrev pub invariant-loop-cycle : goal.invariant-loop-cycle
invariant-loop-cycle l = l.values ≡ map (place_bit l.place) (take l.cycle-index l.run)
