use Rattle.std.proofs.Common.{◌≡◌, map, take}
use Rattle.frame_unroll.specs.Counted.{gate_marks}
use Rattle.frame_unroll.proofs.counted_places.gate_places.Given as goal

abbrev pub invariant-loop-k : goal.invariant-loop-k
invariant-loop-k l = l.found ≡ map (gate_marks l.coding) (take l.k l.design.gates)
