-- The lines of texts that are not read.
use Rattle.std.specs.Prelude.{ℕ, List, codes, Option, Some, None}
use Rattle.assist_types.specs.declared.faults.AssistFault.{AssistFault}
use Rattle.assist_types.specs.declared.faults.AssistFault.TheVariants as assist
use Rattle.cell_types.specs.declared.faults.LibFault.{LibFault}
use Rattle.cell_types.specs.declared.faults.LibFault.TheVariants as liberty
use Rattle.netlist_types.specs.declared.faults.VerFault.{VerFault}
use Rattle.netlist_types.specs.declared.faults.VerFault.TheVariants as verilog
use Rattle.script_types.specs.declared.faults.SdcFault.{SdcFault}
use Rattle.script_types.specs.declared.faults.SdcFault.TheVariants as sdc
use Rattle.fault_lines.specs.declared.sources.Origin.{Origin}
use Rattle.fault_lines.specs.declared.sources.Origin.TheVariants as origin
use Rattle.fault_lines.specs.Shapes.{name_line, number_line, numbered_line, plain_line}

-- the text has more bytes than its limit
abbrev pub too_long_line : Origin → List ℕ
too_long_line origin.Verilog = plain_line (codes "refused verilog 0 TooLong")
too_long_line origin.Liberty = plain_line (codes "refused liberty 0 TooLong")
too_long_line origin.Sdc = plain_line (codes "refused sdc 0 TooLong")
too_long_line origin.Cert = plain_line (codes "refused cert 0 TooLong")
too_long_line origin.Stimulus = plain_line (codes "refused stimulus 0 TooLong")
too_long_line origin.Assist = plain_line (codes "refused assist 0 TooLong")

abbrev pub verilog_line : VerFault → Option (List ℕ)
verilog_line (verilog.Syntax place) = Some (number_line (codes "refused verilog 1 Syntax") place)
verilog_line (verilog.Unsupported place word) = Some (numbered_line (codes "refused verilog 2 Unsupported") place word)
verilog_line (verilog.TwiceName name) = Some (name_line (codes "refused verilog 3 TwiceName") name)
verilog_line (verilog.Width place) = Some (number_line (codes "refused verilog 4 Width") place)
verilog_line (verilog.Deep place) = Some (number_line (codes "refused verilog 6 Deep") place)
verilog_line verilog.Memory = None

abbrev pub liberty_line : LibFault → Option (List ℕ)
liberty_line (liberty.Syntax place) = Some (number_line (codes "refused liberty 1 Syntax") place)
liberty_line (liberty.Function place) = Some (number_line (codes "refused liberty 2 Function") place)
liberty_line (liberty.TwiceCell name) = Some (name_line (codes "refused liberty 3 TwiceCell") name)
liberty_line liberty.Memory = None
liberty_line (liberty.Deep place) = Some (number_line (codes "refused liberty 5 Deep") place)

abbrev pub sdc_line : SdcFault → Option (List ℕ)
sdc_line (sdc.Syntax place) = Some (number_line (codes "refused sdc 1 Syntax") place)
sdc_line (sdc.UnknownCommand line word) = Some (numbered_line (codes "refused sdc 2 UnknownCommand") line word)
sdc_line (sdc.UnknownVariable line word) = Some (numbered_line (codes "refused sdc 3 UnknownVariable") line word)
sdc_line (sdc.BadOption line word) = Some (numbered_line (codes "refused sdc 4 BadOption") line word)
sdc_line (sdc.BadNumber line word) = Some (numbered_line (codes "refused sdc 5 BadNumber") line word)
sdc_line sdc.Memory = None
sdc_line (sdc.Deep place) = Some (number_line (codes "refused sdc 7 Deep") place)

abbrev pub assist_line : AssistFault → Option (List ℕ)
assist_line (assist.Syntax line) = Some (number_line (codes "refused assist 1 Syntax") line)
assist_line (assist.Twice line name) = Some (numbered_line (codes "refused assist 2 Twice") line name)
assist_line (assist.Many number) = Some (number_line (codes "refused assist 3 Many") number)
assist_line assist.Memory = None
assist_line (assist.UnknownRegister line name) = Some (numbered_line (codes "refused assist 5 UnknownRegister") line name)
