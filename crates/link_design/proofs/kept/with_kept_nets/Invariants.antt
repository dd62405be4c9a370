use Rattle.std.proofs.Common.{◌≡◌, ◌++◌, take, map}
use Rattle.net_model.specs.Netlist.{gate_nets}
use Rattle.link_defs.specs.Designs.{gate_at}
use Rattle.link_design.proofs.kept.with_kept_nets.Given as goal

abbrev pub invariant-loop-place : goal.invariant-loop-place
invariant-loop-place l = l.nets ≡ l.sources ++ gate_nets (map (gate_at l.gates) (take l.place-index l.kept))
