use Rattle.std.proofs.Common.{◌≡◌, take}
use Rattle.std.specs.Prelude.{filter, flat_map}
use Rattle.texts.specs.Names.{is_among}
use Rattle.netlist_types.specs.declared.sources.Module.{Module}
use Rattle.cut_source.specs.Cuttable.{plan}
use Rattle.cut_source.specs.Items.{items_cut}
use Rattle.cut_source.proofs.modules.items_cut.Given as goal

abbrev pub invariant-loop-k : goal.invariant-loop-k
invariant-loop-k l = l.list ≡ flat_map (items_cut (plan l.netlist.source.now l.netlist.library.now l.free))
    (filter (λ (m : Module). is_among m.name l.names) (take l.k l.netlist.source.now.modules))
