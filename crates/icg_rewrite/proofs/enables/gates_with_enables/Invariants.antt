use Rattle.std.proofs.Common.{◌≡◌, ◌++◌, take}
use Rattle.icg_rewrite.specs.Rewritten.{enable_gates}
use Rattle.icg_rewrite.proofs.enables.gates_with_enables.Given as goal

abbrev pub invariant-loop-k : goal.invariant-loop-k
invariant-loop-k l = l.gates ≡ l.gated.design.gates ++ enable_gates l.gated.design.nets 0 (take l.k l.gated.gates)
