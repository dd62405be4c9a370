-- Modules, and the text that is a row of them.
use Rattle.std.specs.Prelude.{ℕ, true, Bool, ◌==◌, List, [], ◌∷◌, ◌++◌, length, Result, Ok, codes}
use Rattle.texts.specs.Rules.{◌>>=◌}
use Rattle.verilog_words.specs.declared.faults.SyntaxFault.{SyntaxFault}
use Rattle.verilog_words.specs.Blanks.{after_blanks}
use Rattle.verilog_words.specs.Codes.{semicolon}
use Rattle.verilog_words.specs.Marks.{mark_at}
use Rattle.verilog_words.specs.Names.{has_word, word_at, name_at}
use Rattle.verilog_words.specs.Reads.{Rule}
use Rattle.verilog_syntax.specs.declared.declarations.ModuleDecl.{ModuleDecl}
use Rattle.verilog_syntax.specs.declared.modules.Modules.{Modules}
use Rattle.verilog_syntax.specs.Items.{supported_at, adds_item}
use Rattle.verilog_syntax.specs.Lists.{row_at}
use Rattle.verilog_syntax.specs.Ports.{head_at}

abbrev pub ends_module : List ℕ → Bool
ends_module s = has_word (codes "endmodule") s

-- `module`, a name, a port list or none, `;`, items, `endmodule`
unfoldable pub module_at : Bool → Rule ModuleDecl
module_at wide total s = do
  b ← supported_at wide total s
  t ← word_at (codes "module") total b
  n ← name_at total t
  h ← head_at wide total n.1
  r ← mark_at semicolon total h.1
  i ← row_at ends_module adds_item (record { wide = wide; list = [] }) total r
  e ← word_at (codes "endmodule") total i.1
  Ok (record { name = n.0; head = h.0; items = i.0.list }, e)

abbrev pub with_module : Modules → ModuleDecl → Modules
with_module found m = record found { list = found.list ++ m ∷ [] }

abbrev pub adds_module : Modules → Rule Modules
adds_module found total s = module_at found.wide total s >>= λ m. Ok (with_module found m.0, m.1)

abbrev pub ends_text : List ℕ → Bool
ends_text s = length s == 0

-- the modules that a whole text is, read wide or not, or the fault that the text has
unfoldable pub modules_of : Bool → List ℕ → Result (List ModuleDecl) SyntaxFault
modules_of wide text =
    row_at ends_text adds_module (record { wide = wide; list = [] }) (length text) (after_blanks true text) >>= λ m. Ok m.0.list
