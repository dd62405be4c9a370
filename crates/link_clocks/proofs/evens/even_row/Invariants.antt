use Rattle.std.proofs.Common.{◌≤◌, length}
use Rattle.link_clocks.specs.Marks.{IsMarking}
use Rattle.link_clocks.proofs.Marking.{marks_left}
use Rattle.link_clocks.proofs.evens.even_row.Given as goal

abbrev pub invariant-loop-next : goal.invariant-loop-next
invariant-loop-next l = record { marking : IsMarking l.circuit l.marks; from : l.from ≤ length l.circuit.parts }

abbrev pub decreases-loop-next : goal.decreases-loop-next
decreases-loop-next l = marks_left l.marks
