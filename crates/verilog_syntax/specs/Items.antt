-- The items of a module.
use Rattle.std.specs.Prelude.{ℕ, true, false, Bool, not, ◌&&◌, if◌then◌else◌, List, [], ◌∷◌, ◌++◌, Option, None, Some, Ok, Err}
use Rattle.std.specs.List.{list_any}
use Rattle.texts.specs.Rules.{◌>>=◌, offset_of}
use Rattle.verilog_words.specs.declared.faults.SyntaxFault.TheVariants as fault
use Rattle.netlist_types.specs.declared.gates.PrimKind.{PrimKind}
use Rattle.netlist_types.specs.declared.gates.PrimKind.TheVariants as prim
use Rattle.verilog_words.specs.declared.words.Word.{Word}
use Rattle.verilog_words.specs.declared.words.Word.TheVariants as word
use Rattle.verilog_words.specs.Codes.{comma, dot, equals, left_paren, right_paren, semicolon}
use Rattle.verilog_words.specs.Marks.{is_next, after_mark, mark_at, open_at}
use Rattle.verilog_words.specs.Names.{identifier, next_word, after_identifier, name_at}
use Rattle.verilog_words.specs.Reads.{After, Rule, refused}
use Rattle.verilog_syntax.specs.declared.declarations.AssignDecl.{AssignDecl}
use Rattle.verilog_syntax.specs.declared.declarations.ConnDecl.{ConnDecl}
use Rattle.verilog_syntax.specs.declared.declarations.InstDecl.{InstDecl}
use Rattle.verilog_syntax.specs.declared.declarations.ItemDecl.{ItemDecl}
use Rattle.verilog_syntax.specs.declared.declarations.ItemDecl.TheVariants as item
use Rattle.verilog_syntax.specs.declared.declarations.NetKind.{NetKind}
use Rattle.verilog_syntax.specs.declared.declarations.NetKind.TheVariants as net
use Rattle.verilog_syntax.specs.declared.declarations.Part.TheVariants as part
use Rattle.verilog_syntax.specs.declared.declarations.PartDecl.{PartDecl}
use Rattle.verilog_syntax.specs.declared.declarations.PrimDecl.{PrimDecl}
use Rattle.verilog_syntax.specs.declared.declarations.TermDecl.{TermDecl}
use Rattle.verilog_syntax.specs.declared.items.Items.{Items}
use Rattle.verilog_syntax.specs.declared.prims.Prims.{Prims}
use Rattle.verilog_syntax.specs.declared.prims.Terms.{Terms}
use Rattle.verilog_syntax.specs.Exprs.{expr_at}
use Rattle.verilog_syntax.specs.Lists.{list_at}
use Rattle.verilog_syntax.specs.Parts.{range_or_none}
use Rattle.verilog_syntax.specs.Ports.{ports_at}

abbrev pub adds_name : List (List ℕ) → Rule (List (List ℕ))
adds_name found total s = name_at total s >>= λ n. Ok (found ++ n.0 ∷ [], n.1)

-- a declaration of nets after its word: a range or none, names, and `;`
unfoldable pub nets_at : NetKind → Rule ItemDecl
nets_at kind total s = do
  r ← range_or_none total s
  l ← list_at semicolon adds_name [] total r.1
  Ok (item.Nets kind r.0 l.0, l.1)

-- a target, `=` and an expression
unfoldable pub adds_assign : List AssignDecl → Rule (List AssignDecl)
adds_assign found total s = do
  t ← expr_at false total s
  r ← mark_at equals total t.1
  v ← expr_at true total r
  Ok (found ++ record { target = t.0; value = v.0 } ∷ [], v.1)

-- assignments after their word, up to `;`
unfoldable pub assigns_at : Rule ItemDecl
assigns_at total s = list_at semicolon adds_assign [] total s >>= λ l. Ok (item.Assigns l.0, l.1)

-- all terminals of it but the last are outputs; else the first alone is
abbrev pub has_outputs : PrimKind → Bool
has_outputs prim.Buf = true
has_outputs prim.Not = true
has_outputs _ = false

abbrev pub is_bits : PartDecl → Bool
is_bits p = elim p.part [ part.Net name select ↦ false | part.Bits bits ↦ true ]

abbrev pub with_out : Terms → TermDecl → Terms
with_out found t = record found { outs = found.outs ++ t ∷ [] }

abbrev pub with_in : Terms → TermDecl → Terms
with_in found t = record found { ins = found.ins ++ t ∷ [] }

-- a further terminal: where several may be outputs, one before a comma is, and holds no constant
unfoldable pub adds_term : Terms → Rule Terms
adds_term found total s = expr_at true total s >>= λ t.
    if has_outputs found.kind && is_next comma t.1 then
    (if list_any is_bits t.0.parts then refused total t.1 else Ok (with_out found t.0, t.1))
    else Ok (with_in found t.0, t.1)

-- the terminals after the `(`: an output first, and one more at least
unfoldable pub terms_at : PrimKind → Rule Terms
terms_at kind total s = do
  t ← expr_at false total s
  r ← mark_at comma total t.1
  list_at right_paren adds_term (record { kind = kind; outs = t.0 ∷ []; ins = [] }) total r

-- a name, unless a `(` comes next
unfoldable pub name_or_none : Rule (Option (List ℕ))
name_or_none total s = if is_next left_paren s then Ok (None, s) else (name_at total s >>= λ n. Ok (Some n.0, n.1))

abbrev pub with_prim : Prims → PrimDecl → Prims
with_prim found p = record found { list = found.list ++ p ∷ [] }

-- an instance of a primitive: its name or none, and its terminals
unfoldable pub adds_prim : Prims → Rule Prims
adds_prim found total s = do
  n ← name_or_none total s
  r ← open_at total n.1
  t ← terms_at found.kind total r
  Ok (with_prim found (record { name = n.0; outs = t.0.outs; ins = t.0.ins }), t.1)

-- instances of a primitive after its word, up to `;`
unfoldable pub prims_at : PrimKind → Rule ItemDecl
prims_at kind total s = list_at semicolon adds_prim (record { kind = kind; list = [] }) total s >>= λ l. Ok (item.Prims kind l.0.list, l.1)

-- after the `(` of a connection: an expression or none, and `)`
unfoldable pub parts_or_none : Rule (Option (List PartDecl))
parts_or_none total s = if is_next right_paren s then Ok (None, after_mark s) else do
  e ← expr_at true total s
  r ← mark_at right_paren total e.1
  Ok (Some e.0.parts, r)

-- `.`, a pin, `(`, an expression or none, `)`
unfoldable pub adds_conn : List ConnDecl → Rule (List ConnDecl)
adds_conn found total s = do
  d ← mark_at dot total s
  n ← name_at total d
  r ← open_at total n.1
  e ← parts_or_none total r
  Ok (found ++ record { offset = offset_of total s; pin = n.0; parts = e.0 } ∷ [], e.1)

-- connections after their `(`, none or more
unfoldable pub conns_at : Rule (List ConnDecl)
conns_at total s = if is_next right_paren s then Ok ([], after_mark s) else list_at right_paren adds_conn [] total s

-- an instance: its name, and its connections in parentheses
unfoldable pub adds_inst : List InstDecl → Rule (List InstDecl)
adds_inst found total s = do
  n ← name_at total s
  r ← open_at total n.1
  l ← conns_at total r
  Ok (found ++ record { name = n.0; conns = l.0 } ∷ [], l.1)

-- the name of a cell or module, its instances, and `;`
unfoldable pub insts_at : Rule ItemDecl
insts_at total s = do
  n ← name_at total s
  l ← list_at semicolon adds_inst [] total n.1
  Ok (item.Insts n.0 l.0, l.1)

-- an item that this word begins
unfoldable pub word_item_at : Bool → Word → Rule ItemDecl
word_item_at wide word.Input total s = ports_at wide total s >>= λ l. Ok (item.Ports l.0, l.1)
word_item_at wide word.Output total s = ports_at wide total s >>= λ l. Ok (item.Ports l.0, l.1)
word_item_at wide word.Inout total s = ports_at wide total s >>= λ l. Ok (item.Ports l.0, l.1)
word_item_at wide word.Wire total s = nets_at net.Wire total (after_identifier s)
word_item_at wide word.Supply0 total s = nets_at net.Supply0 total (after_identifier s)
word_item_at wide word.Supply1 total s = nets_at net.Supply1 total (after_identifier s)
word_item_at wide word.Assign total s = assigns_at total (after_identifier s)
word_item_at wide (word.Gate kind) total s = prims_at kind total (after_identifier s)
word_item_at wide _ total s = refused total s

-- the word is left out; so is `inout`, unless the netlist is read wide
abbrev pub is_left_out : Bool → Option Word → Bool
is_left_out wide (Some word.Unsupported) = true
is_left_out wide (Some word.Inout) = not wide
is_left_out wide _ = false

-- a word that is left out is told with its place
unfoldable pub supported_at : Bool → ℕ → List ℕ → After
supported_at wide total s = if is_left_out wide (next_word s) then Err (fault.Unsupported (offset_of total s) (identifier s)) else Ok s

-- an item: by its word, or instances of the cell or module of a name
unfoldable pub item_at : Bool → Rule ItemDecl
item_at wide total s = supported_at wide total s >>= λ r. elim (next_word r) [
  | Some w ↦ word_item_at wide w total r
  | None ↦ insts_at total r
]

abbrev pub with_item : Items → ItemDecl → Items
with_item found i = record found { list = found.list ++ i ∷ [] }

abbrev pub adds_item : Items → Rule Items
adds_item found total s = item_at found.wide total s >>= λ i. Ok (with_item found i.0, i.1)
