-- Ranges, selects, and the parts of an expression.
use Rattle.std.specs.Prelude.{Bool, if◌then◌else◌, Option, None, Some, Ok}
use Rattle.texts.specs.Rules.{◌>>=◌, offset_of}
use Rattle.verilog_words.specs.Codes.{colon, left_bracket, right_bracket}
use Rattle.verilog_words.specs.Constants.{constant_at}
use Rattle.verilog_words.specs.Marks.{is_next, after_mark, mark_at}
use Rattle.verilog_words.specs.Names.{name_at}
use Rattle.verilog_words.specs.Numbers.{begins_number, number_at}
use Rattle.verilog_words.specs.Reads.{Rule, refused}
use Rattle.verilog_syntax.specs.declared.declarations.Part.TheVariants as part
use Rattle.verilog_syntax.specs.declared.declarations.PartDecl.{PartDecl}
use Rattle.verilog_syntax.specs.declared.declarations.Range.{Range}
use Rattle.verilog_syntax.specs.declared.declarations.Select.{Select}
use Rattle.verilog_syntax.specs.declared.declarations.Select.TheVariants as select

-- after a `[`: a number, or two with `:` between them, and `]`
unfoldable pub bits_at : Rule Select
bits_at total s = number_at total s >>= λ l.
    if is_next colon l.1 then (number_at total (after_mark l.1) >>= λ r. mark_at right_bracket total r.1 >>= λ t. Ok (select.Slice l.0 r.0, t))
    else (mark_at right_bracket total l.1 >>= λ t. Ok (select.Bit l.0, t))

-- a select where a `[` stands
unfoldable pub select_at : Rule Select
select_at total s = if is_next left_bracket s then bits_at total (after_mark s) else Ok (select.All, s)

-- after a `[`: two numbers with `:` between them, and `]`
unfoldable pub range_at : Rule Range
range_at total s = do
  m ← number_at total s
  r ← mark_at colon total m.1
  l ← number_at total r
  t ← mark_at right_bracket total l.1
  Ok (record { msb = m.0; lsb = l.0 }, t)

-- a range where a `[` stands
unfoldable pub range_or_none : Rule (Option Range)
range_or_none total s = if is_next left_bracket s then (range_at total (after_mark s) >>= λ r. Ok (Some r.0, r.1)) else Ok (None, s)

-- a constant, where one may stand
unfoldable pub bits_part_at : Bool → Rule PartDecl
bits_part_at constants total s =
    if constants then (constant_at total s >>= λ b. Ok (record { offset = offset_of total s; part = part.Bits b.0 }, b.1))
    else refused total s

-- a name and its select
unfoldable pub net_part_at : Rule PartDecl
net_part_at total s = do
  n ← name_at total s
  x ← select_at total n.1
  Ok (record { offset = offset_of total s; part = part.Net n.0 x.0 }, x.1)

-- a part of an expression, which may be a constant or not
unfoldable pub part_at : Bool → Rule PartDecl
part_at constants total s = if begins_number s then bits_part_at constants total s else net_part_at total s
