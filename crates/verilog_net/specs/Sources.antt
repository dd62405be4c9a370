-- The netlist that a text is.
use Rattle.std.specs.Prelude.{ℕ, Bool, List, Result, Ok, Err}
use Rattle.texts.specs.Rules.{◌>>=◌}
use Rattle.verilog_words.specs.declared.faults.SyntaxFault.{SyntaxFault}
use Rattle.verilog_syntax.specs.Modules.{modules_of}
use Rattle.netlist_types.specs.declared.faults.VerFault.{VerFault}
use Rattle.verilog_words.specs.Told.{of_syntax}
use Rattle.netlist_types.specs.declared.sources.Source.{Source}
use Rattle.verilog_net.specs.Hierarchies.{hierarchy_of}
use Rattle.verilog_net.specs.Modules.{modules_made}

-- a value of the grammar, or its fault as that of a netlist
abbrev pub told : {A : Type 0} → Result A SyntaxFault → Result A VerFault
told (Ok a) = Ok a
told (Err e) = Err (of_syntax e)

-- the netlist of a text, read wide or not, or the fault that the text has
unfoldable pub source_of : Bool → List ℕ → Result Source VerFault
source_of wide text =
    told (modules_of wide text) >>= λ ms.
    hierarchy_of wide ms >>= λ h.
    modules_made h ms >>= λ made.
    Ok (record { modules = made })
