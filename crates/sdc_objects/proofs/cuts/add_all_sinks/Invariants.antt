use Rattle.std.proofs.Common.{◌≡◌, ◌++◌, take}
use Rattle.sdc_objects.specs.Cuts.{all_sinks}
use Rattle.sdc_objects.proofs.cuts.add_all_sinks.Given as goal

abbrev pub invariant-loop-k : goal.invariant-loop-k
invariant-loop-k l = l.found ≡ l.fn.found ++ all_sinks (take l.k l.cells)
