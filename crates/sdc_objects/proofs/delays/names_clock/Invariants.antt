use Rattle.std.proofs.Common.{◌≡◌, false, take}
use Rattle.std.specs.List.{list_any}
use Rattle.sdc_objects.specs.Delays.{is_clock_of}
use Rattle.sdc_objects.proofs.delays.names_clock.Given as goal

abbrev pub invariant-loop-k : goal.invariant-loop-k
invariant-loop-k l = list_any (is_clock_of l.name) (take l.k l.clocks) ≡ false
