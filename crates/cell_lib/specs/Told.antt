-- How a fault of the group tree is told of a library.
use Rattle.lib_words.specs.declared.faults.GroupFault.{GroupFault}
use Rattle.lib_words.specs.declared.faults.GroupFault.TheVariants as group_fault
use Rattle.cell_types.specs.declared.faults.LibFault.{LibFault}
use Rattle.cell_types.specs.declared.faults.LibFault.TheVariants as fault

abbrev pub of_groups : GroupFault → LibFault
of_groups (group_fault.Syntax place) = fault.Syntax place
of_groups (group_fault.Deep place) = fault.Deep place
of_groups group_fault.Memory = fault.Memory
