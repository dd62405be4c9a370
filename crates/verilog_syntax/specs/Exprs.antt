-- Expressions: a part, or a concatenation.
use Rattle.std.specs.Prelude.{ℕ, zero, suc, Bool, if◌then◌else◌, List, [], ◌∷◌, ◌++◌, Ok}
use Rattle.texts.specs.Rules.{◌>>=◌, offset_of, most_nested}
use Rattle.verilog_words.specs.Codes.{left_brace, right_brace}
use Rattle.verilog_words.specs.Marks.{is_next, after_mark}
use Rattle.verilog_words.specs.Reads.{Rule, deep}
use Rattle.verilog_syntax.specs.declared.declarations.PartDecl.{PartDecl}
use Rattle.verilog_syntax.specs.declared.declarations.TermDecl.{TermDecl}
use Rattle.verilog_syntax.specs.Lists.{list_at}
use Rattle.verilog_syntax.specs.Parts.{part_at}

unfoldable pub adds_part : Bool → List PartDecl → Rule (List PartDecl)
adds_part constants found total s = part_at constants total s >>= λ p. Ok (found ++ p.0 ∷ [], p.1)

-- an expression with constants or without, in which at most so many braces are open at once: a part, or `{`, expressions
-- with commas between them, and `}`
unfoldable pub adds_expr : Bool → ℕ → List PartDecl → Rule (List PartDecl)
adds_expr constants zero found total s = if is_next left_brace s then deep total s else adds_part constants found total s
adds_expr constants (suc room) found total s =
    if is_next left_brace s then list_at right_brace (adds_expr constants room) found total (after_mark s)
    else adds_part constants found total s

-- the parts of an expression, in which as many braces are open at once as may nest
unfoldable pub expr_at : Bool → Rule TermDecl
expr_at constants total s =
    adds_expr constants most_nested [] total s >>= λ p. Ok (record { offset = offset_of total s; parts = p.0 }, p.1)

-- how many of so many open braces are left after each `}` that comes next, and what follows
unfoldable pub closed_at : ℕ → List ℕ → ℕ × List ℕ
closed_at zero s = (zero, s)
closed_at (suc opened) s = if is_next right_brace s then closed_at opened (after_mark s) else (suc opened, s)
