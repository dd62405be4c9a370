use Rattle.std.proofs.Common.{◌≡◌, false, take}
use Rattle.std.specs.List.{list_any}
use Rattle.sdc_objects.specs.Standing.{is_judged_clock}
use Rattle.sdc_objects.proofs.named.has_clock.Given as goal

abbrev pub invariant-loop-k : goal.invariant-loop-k
invariant-loop-k l = list_any is_judged_clock (take l.k l.things) ≡ false
