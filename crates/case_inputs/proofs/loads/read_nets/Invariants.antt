use Rattle.std.proofs.Common.{◌≡◌, take}
use Rattle.case_inputs.specs.Assumed.{owner_pin, read_nets}
use Rattle.case_inputs.proofs.loads.read_nets.Given as goal

abbrev pub invariant-loop-place : goal.invariant-loop-place
invariant-loop-place l = l.list ≡ read_nets l.ties.nets l.ties.sets (owner_pin l.owner) (take l.place l.nets)
