use Rattle.std.proofs.Common.{◌≡◌, ◌++◌, take}
use Rattle.std.specs.Prelude.{flat_map}
use Rattle.cut_source.specs.Cuttable.{plan}
use Rattle.cut_source.specs.Items.{item_cut}
use Rattle.cut_source.proofs.modules.push_items_cut.Given as goal

abbrev pub invariant-loop-k : goal.invariant-loop-k
invariant-loop-k l = l.list ≡ l.fn.list ++ flat_map (item_cut (plan l.netlist.source.now l.netlist.library.now l.free) l.body) (take l.k l.body.items)
