use Rattle.std.proofs.Common.{take, All}
use Rattle.link_clocks.specs.Marks.{IsClosedGate}
use Rattle.link_clocks.proofs.opens.open_gates.Given as goal

abbrev pub invariant-loop-gate : goal.invariant-loop-gate
invariant-loop-gate l = All (IsClosedGate l.marks l.from) (take l.gate-index l.gates)
