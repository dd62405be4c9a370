-- What texts stand for, and how they are refused.
use Rattle.std.specs.Prelude.{◌≡◌, ℕ, Bool, true, false, List}
use Rattle.netlist_types.specs.declared.sources.Source.{Source}
use Rattle.verilog_net.specs.Sources.{source_of}
use Rattle.cell_types.specs.declared.libraries.Library.{Library}
use Rattle.cell_lib.specs.Texts.{Reads as ReadsLibrary}
use Rattle.script_types.specs.declared.scripts.Script.{Script}
use Rattle.run_options.specs.declared.forms.ScriptForm.{ScriptForm}
use Rattle.run_options.specs.declared.netlists.NetlistForm.{NetlistForm}
use Rattle.run_options.specs.declared.netlists.NetlistForm.TheVariants.{Narrow, Wide}
use Rattle.sdc_text.specs.Scripts.{script_of}
use Rattle.fault_lines.specs.Sources.{verilog_line, liberty_line, sdc_line}
use Rattle.design_stages.specs.Stages.{Found, Staged}

-- the netlist is read wide
abbrev pub is_wide : NetlistForm → Bool
is_wide Narrow = false
is_wide (Wide cutting) = true

-- a netlist is read, in a form, or is refused with the fault that it has
abbrev pub Netlist : NetlistForm → List ℕ → Found Source → Type 0
Netlist form text = Staged (λ read. source_of (is_wide form) text ≡ read) verilog_line

-- so are its cells
abbrev pub Cells : List ℕ → Found Library → Type 0
Cells text = Staged (ReadsLibrary text) liberty_line

-- and its constraints, in a form
abbrev pub Constraints : ScriptForm → List ℕ → Found Script → Type 0
Constraints form text = Staged (λ read. script_of form text ≡ read) sdc_line
