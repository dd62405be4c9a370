use Rattle.std.proofs.Common.{◌<◌, length}
use Rattle.decision_heap.specs.Heaps.{IsSame}
use Rattle.decision_heap.proofs.heaps.Heap.up.Given as goal

abbrev pub invariant-loop-at : goal.invariant-loop-at
invariant-loop-at l = IsSame l.fn.self l.self × (l.at < length l.self.inside)

abbrev pub decreases-loop-at : goal.decreases-loop-at
decreases-loop-at l = l.at
