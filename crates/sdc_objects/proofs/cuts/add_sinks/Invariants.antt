use Rattle.std.proofs.Common.{◌≡◌, ◌++◌, take}
use Rattle.sdc_objects.specs.Cuts.{sink_ends}
use Rattle.sdc_objects.proofs.cuts.add_sinks.Given as goal

abbrev pub invariant-loop-k : goal.invariant-loop-k
invariant-loop-k l = l.found ≡ l.fn.found ++ sink_ends (take l.k l.pins)
