use Rattle.std.proofs.Common.{◌-◌, length}
use Rattle.decision_heap.specs.Heaps.{IsSame}
use Rattle.decision_heap.proofs.heaps.Heap.down.Given as goal

abbrev pub invariant-loop-child : goal.invariant-loop-child
invariant-loop-child l = IsSame l.fn.self l.self

abbrev pub decreases-loop-child : goal.decreases-loop-child
decreases-loop-child l = length l.self.inside - l.at
