use Rattle.std.proofs.Common.{◌≡◌, map, take}
use Rattle.net_model.specs.declared.netlist.RegOut.{RegOut}
use Rattle.net_link.specs.Numbers.{number_in}
use Rattle.net_link.proofs.outs.reg_numbers.Given as goal

abbrev pub invariant-loop-k : goal.invariant-loop-k
invariant-loop-k l = l.list ≡ map (λ (o : RegOut). number_in l.n.numbers.now l.n.nets o.net) (take l.k l.outs)
