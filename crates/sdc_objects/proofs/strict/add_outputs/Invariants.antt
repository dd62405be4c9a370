use Rattle.std.proofs.Common.{◌≡◌, ◌++◌, take, flat_map}
use Rattle.sdc_objects.specs.Standing.{output_of}
use Rattle.sdc_objects.proofs.strict.add_outputs.Given as goal

abbrev pub invariant-loop-k : goal.invariant-loop-k
invariant-loop-k l = l.found ≡ l.fn.found ++ flat_map output_of (take l.k l.things)
