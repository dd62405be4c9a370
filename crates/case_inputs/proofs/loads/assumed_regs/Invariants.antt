use Rattle.std.proofs.Common.{◌≡◌, take}
use Rattle.case_inputs.specs.Assumed.{assumed_regs}
use Rattle.case_inputs.proofs.loads.assumed_regs.Given as goal

abbrev pub invariant-loop-r : goal.invariant-loop-r
invariant-loop-r l = l.list ≡ assumed_regs l.ties.nets l.ties.sets (take l.r l.regs)
