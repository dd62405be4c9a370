use Rattle.std.proofs.Common.{◌≡◌, ◌++◌, take, map}
use Rattle.net_model.specs.declared.netlist.Gate.{Gate}
use Rattle.link_design.proofs.lists.push_marks.Given as goal

abbrev pub invariant-loop-gate : goal.invariant-loop-gate
invariant-loop-gate l = l.marks ≡ l.fn.marks ++ map (λ (_ : Gate). l.buffer) (take l._gate-index l.gates)
