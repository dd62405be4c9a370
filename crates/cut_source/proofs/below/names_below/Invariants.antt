use Rattle.std.proofs.Common.{◌-◌}
use Rattle.link_items.specs.Items.{module_at}
use Rattle.cut_source.specs.Cuttable.{plan}
use Rattle.cut_source.proofs.Widening.{Searched}
use Rattle.cut_source.proofs.below.names_below.Given as goal

abbrev pub invariant-loop-done : goal.invariant-loop-done
invariant-loop-done l = Searched (plan l.netlist.source.now l.netlist.library.now l.free) (module_at l.netlist.source.now l.top) l.names l.done

abbrev pub decreases-loop-done : goal.decreases-loop-done
decreases-loop-done l = 18446744073709551616 - l.done
