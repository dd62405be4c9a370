use Rattle.std.proofs.Common.{◌≡◌, ◌++◌, take}
use Rattle.link_design.proofs.lists.push_copies.Given as goal

abbrev pub invariant-loop-gate : goal.invariant-loop-gate
invariant-loop-gate l = l.list ≡ l.fn.list ++ take l.gate-index l.gates
