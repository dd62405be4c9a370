use Rattle.std.proofs.Common.{◌≡◌, take, map}
use Rattle.std.specs.Prelude.{filter}
use Rattle.texts.specs.Names.{is_among}
use Rattle.netlist_types.specs.declared.sources.Module.{Module}
use Rattle.cut_source.specs.Cuttable.{plan, module_left}
use Rattle.cut_source.proofs.modules.modules_left.Given as goal

abbrev pub invariant-loop-k : goal.invariant-loop-k
invariant-loop-k l = l.list ≡ map (module_left (plan l.netlist.source.now l.netlist.library.now l.free))
    (filter (λ (m : Module). is_among m.name l.names) (take l.k l.netlist.source.now.modules))
