use Rattle.std.proofs.Common.{◌≡◌, map, take, ◌-◌}
use Rattle.net_model.specs.declared.claims.PinRef.TheVariants.{GateIn}
use Rattle.net_model.specs.declared.netlist.Gate.{Gate}
use Rattle.net_link.specs.Numbers.{number_in}
use Rattle.net_link.proofs.pins.gate_loads.Given as goal

abbrev pub invariant-loop-k : goal.invariant-loop-k
invariant-loop-k l = l.list ≡ map (λ (g : Gate). GateIn (number_in l.n.numbers.now l.n.nets g.out - l.n.sources) l.place) (take l.k l.gates)
