-- The words of the subset, none of which is a simple identifier.
use Rattle.std.specs.Prelude.{ℕ, Bool, ◌||◌, if◌then◌else◌, List, [], ◌∷◌, Option, Some, None, codes}
use Rattle.std.specs.Option.{option_map, option_or}
use Rattle.std.specs.List.{list_any}
use Rattle.std.specs.Str.{bytes_eq}
use Rattle.texts.specs.Lookups.{in_table}
use Rattle.verilog_words.specs.declared.words.Word.{Word}
use Rattle.verilog_words.specs.declared.words.Word.TheVariants as word
use Rattle.netlist_types.specs.declared.gates.PrimKind.{PrimKind}
use Rattle.netlist_types.specs.declared.gates.PrimKind.TheVariants as gate

-- words of modules, ports, nets and assignments
unfoldable pub module_word : List ℕ → Option Word
module_word x = in_table (
    (codes "module", word.Module)
    ∷ (codes "endmodule", word.Endmodule)
    ∷ (codes "input", word.Input)
    ∷ (codes "output", word.Output)
    ∷ (codes "inout", word.Inout)
    ∷ (codes "wire", word.Wire)
    ∷ (codes "supply0", word.Supply0)
    ∷ (codes "supply1", word.Supply1)
    ∷ (codes "assign", word.Assign)
    ∷ []) x

-- the gate primitives
unfoldable pub gate_word : List ℕ → Option PrimKind
gate_word x = in_table (
    (codes "and", gate.And)
    ∷ (codes "nand", gate.Nand)
    ∷ (codes "or", gate.Or)
    ∷ (codes "nor", gate.Nor)
    ∷ (codes "xor", gate.Xor)
    ∷ (codes "xnor", gate.Xnor)
    ∷ (codes "buf", gate.Buf)
    ∷ (codes "not", gate.Not)
    ∷ []) x

-- words of behaviour and parameters, which no netlist of the subset has
unfoldable pub is_behaviour : List ℕ → Bool
is_behaviour x = list_any (bytes_eq x) (codes "always" ∷ codes "initial" ∷ codes "reg" ∷ codes "integer" ∷ codes "parameter" ∷ codes "localparam"
    ∷ codes "defparam" ∷ codes "specify" ∷ codes "function" ∷ codes "task" ∷ codes "generate" ∷ codes "genvar" ∷ [])

-- words of strengths and three-state gates, which no netlist of the subset has
unfoldable pub is_strength : List ℕ → Bool
is_strength x = list_any (bytes_eq x) (codes "tri" ∷ codes "tri0" ∷ codes "tri1" ∷ codes "wand" ∷ codes "wor" ∷ codes "trireg"
    ∷ codes "bufif0" ∷ codes "bufif1" ∷ codes "notif0" ∷ codes "notif1" ∷ codes "primitive" ∷ [])

-- the word that these bytes are
unfoldable pub word_of : List ℕ → Option Word
word_of x = option_or (module_word x) (option_or (option_map word.Gate (gate_word x)) (if is_behaviour x || is_strength x then Some word.Unsupported else None))
