use Rattle.std.proofs.Common.{◌≡◌, take, map}
use Rattle.net_model.specs.declared.netlist.RegOut.{RegOut}
use Rattle.link_clocks.proofs.pins.reg_nets.Given as goal

abbrev pub invariant-loop-out : goal.invariant-loop-out
invariant-loop-out l = l.nets ≡ map (λ (o : RegOut). o.net) (take l.out-index l.reg.outs)
