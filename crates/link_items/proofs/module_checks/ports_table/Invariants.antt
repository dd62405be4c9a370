use Rattle.std.proofs.Common.{◌≡◌, [], map, take}
use Rattle.texts.specs.Names.{with_names}
use Rattle.netlist_types.specs.declared.sources.Port.{Port}
use Rattle.link_items.proofs.module_checks.ports_table.Given as goal

abbrev pub invariant-loop-port : goal.invariant-loop-port
invariant-loop-port l = l.names ≡ with_names [] (map (λ (p : Port). p.name) (take l.port-index l.ports))
