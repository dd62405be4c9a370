use Rattle.std.proofs.Common.{◌≡◌, ◌++◌, take}
use Rattle.case_inputs.specs.Assumed.{new_nets}
use Rattle.case_inputs.proofs.inputs.with_new_nets.Given as goal

abbrev pub invariant-loop-j : goal.invariant-loop-j
invariant-loop-j l = l.list ≡ l.inputs ++ new_nets l.nets (take l.j l.assumed)
