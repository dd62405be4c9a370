use Rattle.std.proofs.Common.{◌≡◌, ◌++◌, take, map}
use Rattle.net_model.specs.declared.netlist.Gate.{Gate}
use Rattle.link_design.proofs.lists.push_gate_nets.Given as goal

abbrev pub invariant-loop-gate : goal.invariant-loop-gate
invariant-loop-gate l = l.nets ≡ l.fn.nets ++ map (λ (g : Gate). g.out) (take l.gate-index l.gates)
