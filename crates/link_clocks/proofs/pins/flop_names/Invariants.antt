use Rattle.std.proofs.Common.{◌≡◌, take, map}
use Rattle.cell_types.specs.declared.libraries.FlopOut.{FlopOut}
use Rattle.link_clocks.proofs.pins.flop_names.Given as goal

abbrev pub invariant-loop-out : goal.invariant-loop-out
invariant-loop-out l = l.names ≡ map (λ (o : FlopOut). o.name) (take l.out-index l.outs)
