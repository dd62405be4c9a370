use Rattle.std.proofs.Common.{◌≡◌, ◌++◌, take, flat_map}
use Rattle.sdc_objects.specs.Standing.{input_of}
use Rattle.sdc_objects.proofs.strict.add_inputs.Given as goal

abbrev pub invariant-loop-k : goal.invariant-loop-k
invariant-loop-k l = l.found ≡ l.fn.found ++ flat_map input_of (take l.k l.things)
