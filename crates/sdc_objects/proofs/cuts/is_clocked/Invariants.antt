use Rattle.std.proofs.Common.{◌≡◌, false, take}
use Rattle.sdc_objects.specs.Cuts.{is_clocked}
use Rattle.sdc_objects.proofs.cuts.is_clocked.Given as goal

abbrev pub invariant-loop-k : goal.invariant-loop-k
invariant-loop-k l = is_clocked (take l.k l.pins) ≡ false
