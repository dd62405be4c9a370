use Rattle.std.proofs.Common.{◌≡◌, take, map}
use Rattle.cell_types.specs.declared.libraries.CombOut.{CombOut}
use Rattle.link_clocks.proofs.pins.comb_names.Given as goal

abbrev pub invariant-loop-out : goal.invariant-loop-out
invariant-loop-out l = l.names ≡ map (λ (o : CombOut). o.name) (take l.out-index l.outs)
