-- Ports: the port list of a module, and declarations of ports in its body.
use Rattle.std.specs.Prelude.{ℕ, Bool, ◌-◌, if◌then◌else◌, List, [], ◌∷◌, ◌++◌, length, map, Option, None, Some, is_some, slice_get, Ok, codes}
use Rattle.texts.specs.Rules.{◌>>=◌, offset_of}
use Rattle.verilog_words.specs.declared.words.Word.{Word}
use Rattle.verilog_words.specs.declared.words.Word.TheVariants as word
use Rattle.verilog_words.specs.Codes.{right_paren, semicolon}
use Rattle.verilog_words.specs.Marks.{is_next, after_mark, opens_list}
use Rattle.verilog_words.specs.Names.{next_word, has_word, after_identifier, name_at}
use Rattle.verilog_words.specs.Reads.{Rule, refused}
use Rattle.netlist_types.specs.declared.sources.Dir.{Dir}
use Rattle.netlist_types.specs.declared.sources.Dir.TheVariants as dir
use Rattle.verilog_syntax.specs.declared.declarations.Head.{Head}
use Rattle.verilog_syntax.specs.declared.declarations.Head.TheVariants as head
use Rattle.verilog_syntax.specs.declared.declarations.PortDecl.{PortDecl}
use Rattle.verilog_syntax.specs.declared.declarations.Spelled.{Spelled}
use Rattle.verilog_syntax.specs.declared.ports.Ports.{Ports}
use Rattle.verilog_syntax.specs.declared.ports.Turn.{Turn}
use Rattle.verilog_syntax.specs.Lists.{list_at}
use Rattle.verilog_syntax.specs.Parts.{range_or_none}

-- a name, with its place
unfoldable pub spelled_at : Rule Spelled
spelled_at total s = name_at total s >>= λ n. Ok (record { offset = offset_of total s; name = n.0 }, n.1)

abbrev pub adds_spelled : List Spelled → Rule (List Spelled)
adds_spelled found total s = spelled_at total s >>= λ n. Ok (found ++ n.0 ∷ [], n.1)

-- the direction that a word is; `inout` is one where the netlist is read wide
abbrev pub dir_of : Bool → Option Word → Option Dir
dir_of wide (Some word.Input) = Some dir.Input
dir_of wide (Some word.Output) = Some dir.Output
dir_of wide (Some word.Inout) = if wide then Some dir.Inout else None
dir_of wide _ = None

-- the direction that comes next
unfoldable pub next_dir : Bool → List ℕ → Option Dir
next_dir wide s = dir_of wide (next_word s)

unfoldable pub dir_at : Bool → Rule Dir
dir_at wide total s = elim (next_dir wide s) [ Some d ↦ Ok (d, after_identifier s) | None ↦ refused total s ]

-- after the word `wire` where it stands
abbrev pub after_wire : List ℕ → List ℕ
after_wire s = if has_word (codes "wire") s then after_identifier s else s

-- a direction, `wire` or not, and a range or none
unfoldable pub turn_at : Bool → Rule Turn
turn_at wide total s = do
  d ← dir_at wide total s
  r ← range_or_none total (after_wire d.1)
  Ok (record { dir = d.0; range = r.0 }, r.1)

abbrev pub port_of : Turn → Spelled → PortDecl
port_of turn name = record { dir = turn.dir; range = turn.range; name = name }

-- the direction and range of the next port: those that stand here, or else those of the port before it
unfoldable pub inherited_at : Ports → Rule Turn
inherited_at found total s =
    if is_some (next_dir found.wide s) then turn_at found.wide total s
    else elim (slice_get found.list (length found.list - 1)) [ Some p ↦ Ok (record { dir = p.dir; range = p.range }, s) | None ↦ refused total s ]

abbrev pub with_port : Ports → PortDecl → Ports
with_port found p = record found { list = found.list ++ p ∷ [] }

-- a port of a list of declarations
unfoldable pub adds_port : Ports → Rule Ports
adds_port found total s = do
  t ← inherited_at found total s
  n ← spelled_at total t.1
  Ok (with_port found (port_of t.0 n.0), n.1)

-- after the `(` of a port list: nothing, declarations where a direction comes first, or names
unfoldable pub listed_at : Bool → Rule Head
listed_at wide total s =
    if is_next right_paren s then Ok (head.Names [], after_mark s)
    else if is_some (next_dir wide s) then
    (list_at right_paren adds_port (record { wide = wide; list = [] }) total s >>= λ p. Ok (head.Ports p.0.list, p.1))
    else (list_at right_paren adds_spelled [] total s >>= λ p. Ok (head.Names p.0, p.1))

-- a port list where one stands
unfoldable pub head_at : Bool → Rule Head
head_at wide total s = if opens_list s then listed_at wide total (after_mark s) else Ok (head.Names [], s)

-- a declaration of ports in a body: a direction, `wire` or not, a range or none, names, and `;`
unfoldable pub ports_at : Bool → Rule (List PortDecl)
ports_at wide total s = turn_at wide total s >>= λ t. list_at semicolon adds_spelled [] total t.1 >>= λ l. Ok (map (port_of t.0) l.0, l.1)
