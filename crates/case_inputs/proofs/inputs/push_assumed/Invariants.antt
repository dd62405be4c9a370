use Rattle.std.proofs.Common.{◌≡◌, ◌++◌, take}
use Rattle.case_inputs.specs.Assumed.{new_fixed}
use Rattle.case_inputs.proofs.inputs.push_assumed.Given as goal

abbrev pub invariant-loop-j : goal.invariant-loop-j
invariant-loop-j l = l.list ≡ l.fn.list ++ new_fixed l.first (take l.j l.assumed)
