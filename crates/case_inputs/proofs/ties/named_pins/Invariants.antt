use Rattle.std.proofs.Common.{◌≡◌, take}
use Rattle.case_inputs.specs.Ties.{all_pins}
use Rattle.case_inputs.proofs.ties.named_pins.Given as goal

abbrev pub invariant-loop-j : goal.invariant-loop-j
invariant-loop-j l = l.list ≡ all_pins (take l.j l.assumed)
