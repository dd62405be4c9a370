use Rattle.std.proofs.Common.{◌≡◌, ◌++◌, take}
use Rattle.sdc_objects.specs.Cuts.{source_starts}
use Rattle.sdc_objects.proofs.cuts.add_sources.Given as goal

abbrev pub invariant-loop-k : goal.invariant-loop-k
invariant-loop-k l = l.found ≡ l.fn.found ++ source_starts (take l.k l.pins)
