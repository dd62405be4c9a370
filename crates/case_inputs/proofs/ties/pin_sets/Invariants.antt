use Rattle.std.proofs.Common.{◌≡◌, take}
use Rattle.case_inputs.specs.Ties.{pin_sets}
use Rattle.case_inputs.proofs.ties.pin_sets.Given as goal

abbrev pub invariant-loop-j : goal.invariant-loop-j
invariant-loop-j l = l.sets ≡ pin_sets (take l.j l.assumed)
