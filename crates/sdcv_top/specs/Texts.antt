-- The stages that read a text.
use Rattle.std.specs.Prelude.{◌≡◌, ◌⊎◌, ℕ, Bool, true, false, List, Result, Ok, Err}
use Rattle.net_model.specs.declared.invariants.InvClause.{InvClause}
use Rattle.netlist_types.specs.declared.sources.Source.{Source}
use Rattle.cell_types.specs.declared.libraries.Library.{Library}
use Rattle.cell_types.specs.Builtin.{builtin_cells}
use Rattle.run_options.specs.declared.forms.Forms.{Forms}
use Rattle.run_options.specs.declared.forms.ScriptForm.{ScriptForm}
use Rattle.run_options.specs.declared.netlists.NetlistForm.{NetlistForm}
use Rattle.script_types.specs.declared.scripts.Script.{Script}
use Rattle.linked_types.specs.declared.names.Names.{Names}
use Rattle.assist_types.specs.declared.clauses.Assist.{Assist}
use Rattle.assist_types.specs.declared.faults.AssistFault.{AssistFault}
use Rattle.assist_text.specs.Clauses.{IsTextOf}
use Rattle.assist_text.specs.Causes.{IsCause}
use Rattle.assist_text.specs.Named.{AreNamed, IsUnknown}
use Rattle.fault_lines.specs.declared.sources.Origin.{Origin}
use Rattle.fault_lines.specs.declared.sources.Origin.TheVariants as origin
use Rattle.fault_lines.specs.Sources.{assist_line, too_long_line}
use Rattle.design_stages.specs.Stages.{Found, Staged}
use Rattle.design_stages.specs.Texts as texts
use Rattle.design_stages.specs.declared.designs.ReadTexts.{ReadTexts}
use Rattle.sdcv_words.specs.Commands.{Texts as TextNames}
use Rattle.sdcv_top.specs.Reads.{Got, Text, Longer, is_builtin}
use Rattle.sdcv_top.specs.Stages.{Due, AfterText, ◌>>=◌}

-- a text stands for what its reader finds, and is refused where it is too long
abbrev pub Unless : {A : Type 0} → Origin → (List ℕ → Found A → Type 0) → Got → Found A → Type 0
Unless from Reads (Text text) found = Reads text found
Unless from Reads Longer found = found ≡ Err (too_long_line from)

abbrev pub Netlist : NetlistForm → Got → Found Source → Type 0
Netlist form = Unless origin.Verilog (texts.Netlist form)

abbrev pub Cells : Got → Found Library → Type 0
Cells = Unless origin.Liberty texts.Cells

abbrev pub Constraints : ScriptForm → Got → Found Script → Type 0
Constraints form = Unless origin.Sdc (texts.Constraints form)

-- the text itself
abbrev pub Itself : List ℕ → Found (List ℕ) → Type 0
Itself text found = found ≡ Ok text

-- constraints that are kept as they are written
abbrev pub ConstraintsText : Got → Found (List ℕ) → Type 0
ConstraintsText = Unless origin.Sdc Itself

abbrev pub CertText : Got → Found (List ℕ) → Type 0
CertText = Unless origin.Cert Itself

abbrev pub ReportText : Got → Found (List ℕ) → Type 0
ReportText = Unless origin.Stimulus Itself

-- the clauses that an assisting text has over the registers of these names, or its fault
abbrev pub HasClauses : Names → List ℕ → Result (List InvClause) AssistFault → Type 0
HasClauses names text (Ok clauses) = (assist : Assist) × IsTextOf text assist × AreNamed names.cells assist.clauses clauses
HasClauses names text (Err fault) = IsCause text fault ⊎ ((assist : Assist) × IsTextOf text assist × IsUnknown names.cells assist.clauses fault)

abbrev pub Assists : Names → List ℕ → Found (List InvClause) → Type 0
Assists names text = Staged (HasClauses names text) assist_line

abbrev pub AssistText : Names → Got → Found (List InvClause) → Type 0
AssistText names = Unless origin.Assist (Assists names)

-- the cells that are known without a file
unfoldable pub builtin_library : Library
builtin_library = record { cells = builtin_cells }

-- the cells that are known without a file, and else those of a file
unfoldable pub AfterCellsIf : Bool → (Library → Due) → Due
AfterCellsIf true next = next builtin_library
AfterCellsIf false next = AfterText Cells next

-- the word `builtin` stands for the cells that are known without a file
unfoldable pub AfterCells : List ℕ → (Library → Due) → Due
AfterCells name = AfterCellsIf (is_builtin name)

-- the netlist, its cells and its constraints are read, in this order, netlist and constraints in their forms
unfoldable pub AfterTexts : TextNames → Forms → (ReadTexts → Due) → Due
AfterTexts names forms next = do
  source ← AfterText (Netlist forms.netlist)
  library ← AfterCells names.cells
  script ← AfterText (Constraints forms.script)
  next (record { source = source; library = library; script = script; forms = forms })
