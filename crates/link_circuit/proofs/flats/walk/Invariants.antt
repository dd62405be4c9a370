use Rattle.link_defs.specs.Flatten.{flat_of}
use Rattle.link_items.specs.Items.{module_at}
use Rattle.link_circuit.specs.UnderWay.{IsUnderWay, left}
use Rattle.link_circuit.proofs.flats.walk.Given as goal

abbrev pub invariant-loop-frame : goal.invariant-loop-frame
invariant-loop-frame l = IsUnderWay (flat_of l.netlist.source.now l.netlist.library.now (module_at l.netlist.source.now l.top)) l.netlist.source.now
    l.netlist.library.now l.stack l.flat

abbrev pub decreases-loop-frame : goal.decreases-loop-frame
decreases-loop-frame l = left l.netlist.source.now l.stack l.flat
