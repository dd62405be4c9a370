use Rattle.std.proofs.Common.{take}
use Rattle.net_model.specs.Netlist.{setting_inputs}
use Rattle.net_model.specs.Markings.{AddsMarks}
use Rattle.net_model.proofs.marks.mark_settings.Given as goal

abbrev pub invariant-loop-s : goal.invariant-loop-s
invariant-loop-s l = AddsMarks (setting_inputs (take l.s l.settings)) l.initial.marks l.marks
