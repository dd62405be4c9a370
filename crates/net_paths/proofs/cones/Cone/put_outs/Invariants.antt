use Rattle.std.proofs.Common.{◌≡◌, map, take}
use Rattle.net_model.specs.declared.netlist.RegOut.{RegOut}
use Rattle.net_paths.specs.Cones.{IsSeeded}
use Rattle.net_paths.proofs.cones.Cone.put_outs.Given as goal

abbrev pub invariant-loop-out : goal.invariant-loop-out
invariant-loop-out l = record {
  seeded : IsSeeded l.launch.design.now l.launch.start.now l.launch.sets.now (map (λ (o : RegOut). o.net) (take l.out-index l.outs)) l.self;
  place : l.self.told ≡ 0;
}
