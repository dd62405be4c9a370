use Rattle.std.proofs.Common.{◌≡◌, take}
use Rattle.std.specs.Prelude.{flat_map}
use Rattle.texts.specs.Names.{with_names}
use Rattle.cut_source.specs.Below.{inner_names}
use Rattle.cut_source.specs.Cuttable.{plan}
use Rattle.cut_source.proofs.below.add_all_inner.Given as goal

abbrev pub invariant-loop-k : goal.invariant-loop-k
invariant-loop-k l = l.names
    ≡ with_names l.fn.names (flat_map (inner_names (plan l.netlist.source.now l.netlist.library.now l.free)) (take l.k l.body.items))
