use Rattle.std.proofs.Common.{◌≡◌, take}
use Rattle.linked_types.specs.Inputs.{input_names}
use Rattle.named_runs.specs.NamedBits as spec
use Rattle.named_runs.proofs.bits.input_bits.Given as goal

abbrev pub invariant-loop-place : goal.invariant-loop-place
invariant-loop-place l = l.bits.items ≡ spec.input_bits (take l.place (input_names l.names)) l.run
