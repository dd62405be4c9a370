use Rattle.std.proofs.Common.{◌≡◌, take}
use Rattle.frame_unroll.specs.Counting.{marked}
use Rattle.frame_unroll.specs.Found.{with_keys}
use Rattle.frame_unroll.proofs.found_keys.add_counted.Given as goal

abbrev pub invariant-loop-i : goal.invariant-loop-i
invariant-loop-i l = l.found ≡ with_keys l.initial.found (marked (take l.i l.places) (take l.i l.lits))
