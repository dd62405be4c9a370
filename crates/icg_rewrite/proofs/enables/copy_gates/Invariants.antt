use Rattle.std.proofs.Common.{◌≡◌, take}
use Rattle.icg_rewrite.proofs.enables.copy_gates.Given as goal

abbrev pub invariant-loop-gate : goal.invariant-loop-gate
invariant-loop-gate l = l.list ≡ take l.gate-index l.gates
