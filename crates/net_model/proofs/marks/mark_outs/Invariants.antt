use Rattle.std.proofs.Common.{take, map}
use Rattle.net_model.specs.Markings.{AddsMarks}
use Rattle.net_model.proofs.Sources.{net_of}
use Rattle.net_model.proofs.marks.mark_outs.Given as goal

abbrev pub invariant-loop-o : goal.invariant-loop-o
invariant-loop-o l = AddsMarks (map net_of (take l.o l.outs)) l.initial.marks l.marks
