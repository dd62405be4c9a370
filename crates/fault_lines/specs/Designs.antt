-- The lines of texts that are read and say nothing together.
use Rattle.std.specs.Prelude.{ℕ, List, codes, Option, Some, None}
use Rattle.linked_types.specs.declared.faults.LinkFault.{LinkFault}
use Rattle.linked_types.specs.declared.faults.LinkFault.TheVariants as link
use Rattle.selected_types.specs.declared.faults.ExpandFault.{ExpandFault}
use Rattle.selected_types.specs.declared.faults.ExpandFault.TheVariants as expand
use Rattle.fault_lines.specs.Shapes.{limit_line, name_line, number_line, numbered_line, two_numbers_line}

abbrev pub link_line : LinkFault → Option (List ℕ)
link_line (link.UnknownCell name) = Some (name_line (codes "refused link 1 UnknownCell") name)
link_line (link.UnsupportedCell name) = Some (name_line (codes "refused link 2 UnsupportedCell") name)
link_line (link.UnknownPin name) = Some (name_line (codes "refused link 3 UnknownPin") name)
link_line (link.OpenInput name) = Some (name_line (codes "refused link 4 OpenInput") name)
link_line (link.Undriven name) = Some (name_line (codes "refused link 5 Undriven") name)
link_line (link.ManyDrivers name) = Some (name_line (codes "refused link 6 ManyDrivers") name)
link_line (link.Loop name) = Some (name_line (codes "refused link 7 Loop") name)
link_line (link.NotTheClock name) = Some (name_line (codes "refused link 8 NotTheClock") name)
link_line (link.ClockAsData name) = Some (name_line (codes "refused link 9 ClockAsData") name)
link_line (link.Recursive name) = Some (name_line (codes "refused link 10 Recursive") name)
link_line (link.NameClash name) = Some (name_line (codes "refused link 11 NameClash") name)
link_line (link.NoTop number) = Some (number_line (codes "refused link 12 NoTop") number)
link_line (link.Limit what number) = Some (limit_line (codes "refused link 13 Limit") what number)
link_line (link.BadSetting name) = Some (name_line (codes "refused link 14 BadSetting") name)
link_line link.Memory = None

abbrev pub expand_line : ExpandFault → Option (List ℕ)
expand_line (expand.TwoClocks first second) = Some (two_numbers_line (codes "refused expand 1 TwoClocks") first second)
expand_line (expand.ClockNotPort line) = Some (number_line (codes "refused expand 2 ClockNotPort") line)
expand_line (expand.CaseTwice first second) = Some (two_numbers_line (codes "refused expand 3 CaseTwice") first second)
expand_line (expand.CaseOnReset line name) = Some (numbered_line (codes "refused expand 4 CaseOnReset") line name)
expand_line (expand.CaseOnPin line name) = Some (numbered_line (codes "refused expand 5 CaseOnPin") line name)
expand_line (expand.Limit what number) = Some (limit_line (codes "refused expand 6 Limit") what number)
expand_line expand.Memory = None
expand_line (expand.NoClock name) = Some (name_line (codes "refused expand 8 NoClock") name)
expand_line (expand.Generated line) = Some (number_line (codes "refused expand 9 Generated") line)
