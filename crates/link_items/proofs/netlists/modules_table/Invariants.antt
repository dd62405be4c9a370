use Rattle.std.proofs.Common.{◌≡◌, [], map, take}
use Rattle.texts.specs.Names.{with_names}
use Rattle.netlist_types.specs.declared.sources.Module.{Module}
use Rattle.link_items.proofs.netlists.modules_table.Given as goal

abbrev pub invariant-loop-module : goal.invariant-loop-module
invariant-loop-module l = l.names ≡ with_names [] (map (λ (m : Module). m.name) (take l.module-index l.modules))
