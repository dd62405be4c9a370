use Rattle.std.proofs.Common.{◌≡◌, take}
use Rattle.case_inputs.specs.Assumed.{assumed_gates}
use Rattle.case_inputs.proofs.loads.assumed_gates.Given as goal

abbrev pub invariant-loop-k : goal.invariant-loop-k
invariant-loop-k l = l.list ≡ assumed_gates l.ties.nets l.ties.sets (take l.k l.gates)
