use Rattle.std.proofs.Common.{take}
use Rattle.exception_expand.specs.Choices.{AreDriven}
use Rattle.exception_expand.proofs.driven.driven.Given as goal

abbrev pub invariant-loop-k : goal.invariant-loop-k
invariant-loop-k l = AreDriven (take l.k l.cells) l.inputs l.marks
