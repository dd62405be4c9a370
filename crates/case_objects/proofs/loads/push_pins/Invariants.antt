use Rattle.std.proofs.Common.{◌≡◌, ◌++◌, take}
use Rattle.case_objects.proofs.loads.push_pins.Given as goal

abbrev pub invariant-loop-j : goal.invariant-loop-j
invariant-loop-j l = l.list ≡ l.fn.list ++ take l.j l.pins
