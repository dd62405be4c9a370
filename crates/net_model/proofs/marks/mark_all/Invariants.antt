use Rattle.std.proofs.Common.{take}
use Rattle.net_model.specs.Markings.{AddsMarks}
use Rattle.net_model.proofs.marks.mark_all.Given as goal

abbrev pub invariant-loop-i : goal.invariant-loop-i
invariant-loop-i l = AddsMarks (take l.i l.numbers) l.initial.marks l.marks
