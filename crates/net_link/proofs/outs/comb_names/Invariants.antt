use Rattle.std.proofs.Common.{◌≡◌, map, take}
use Rattle.cell_types.specs.declared.libraries.CombOut.{CombOut}
use Rattle.net_link.proofs.outs.comb_names.Given as goal

abbrev pub invariant-loop-k : goal.invariant-loop-k
invariant-loop-k l = l.names ≡ map (λ (o : CombOut). o.name) (take l.k l.outs)
