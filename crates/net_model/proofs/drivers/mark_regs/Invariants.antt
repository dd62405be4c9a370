use Rattle.std.proofs.Common.{take}
use Rattle.std.specs.Prelude.{flat_map}
use Rattle.net_model.specs.Netlist.{reg_nets}
use Rattle.net_model.specs.Markings.{AddsMarks}
use Rattle.net_model.proofs.drivers.mark_regs.Given as goal

abbrev pub invariant-loop-r : goal.invariant-loop-r
invariant-loop-r l = AddsMarks (flat_map reg_nets (take l.r l.design.regs)) l.initial.marks l.marks
