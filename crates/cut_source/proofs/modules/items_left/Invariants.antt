use Rattle.std.proofs.Common.{◌≡◌, take}
use Rattle.std.specs.Prelude.{filter}
use Rattle.cut_source.specs.Cuttable.{plan, is_left}
use Rattle.cut_source.proofs.modules.items_left.Given as goal

abbrev pub invariant-loop-k : goal.invariant-loop-k
invariant-loop-k l = l.list ≡ filter (is_left (plan l.netlist.source.now l.netlist.library.now l.free)) (take l.k l.items)
