-- How a fault of the grammar is told of a netlist.
use Rattle.verilog_words.specs.declared.faults.SyntaxFault.{SyntaxFault}
use Rattle.verilog_words.specs.declared.faults.SyntaxFault.TheVariants as syntax_fault
use Rattle.netlist_types.specs.declared.faults.VerFault.{VerFault}
use Rattle.netlist_types.specs.declared.faults.VerFault.TheVariants as fault

abbrev pub of_syntax : SyntaxFault → VerFault
of_syntax (syntax_fault.Syntax place) = fault.Syntax place
of_syntax (syntax_fault.Unsupported place word) = fault.Unsupported place word
of_syntax (syntax_fault.Deep place) = fault.Deep place
of_syntax syntax_fault.Memory = fault.Memory
