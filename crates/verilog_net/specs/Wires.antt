-- The wires of an expression.
use Rattle.std.specs.Prelude.{ℕ, Bool, List, [], ◌∷◌, ◌++◌, map, Option, Some, None, Result, Ok, Err}
use Rattle.std.specs.List.{range_with_len}
use Rattle.texts.specs.Rules.{◌>>=◌}
use Rattle.verilog_syntax.specs.declared.declarations.Part.TheVariants.{Net, Bits}
use Rattle.verilog_syntax.specs.declared.declarations.PartDecl.{PartDecl}
use Rattle.verilog_syntax.specs.declared.declarations.TermDecl.{TermDecl}
use Rattle.netlist_types.specs.declared.faults.VerFault.{VerFault}
use Rattle.netlist_types.specs.declared.faults.VerFault.TheVariants as fault
use Rattle.verilog_scope.specs.declared.ranges.Run.{Run}
use Rattle.verilog_scope.specs.declared.scopes.Scope.{Scope}
use Rattle.verilog_scope.specs.Folds.{fold_ok}
use Rattle.verilog_scope.specs.Scopes.{run_of}
use Rattle.netlist_types.specs.declared.sources.Wire.{Wire}
use Rattle.netlist_types.specs.declared.sources.Wire.TheVariants as wire

-- the nets of a run
abbrev pub numbers : Run → List ℕ
numbers r = range_with_len r.first r.count

abbrev pub nets : Run → List Wire
nets r = map (λ (n : ℕ). wire.Net n) (numbers r)

abbrev pub constants : List Bool → List Wire
constants bits = map (λ (b : Bool). wire.Const b) bits

-- the wires of a selection, after those before it; it has to be one of bits that are there
abbrev pub with_run : ℕ → List Wire → Option Run → Result (List Wire) VerFault
with_run offset found None = Err (fault.Syntax offset)
with_run offset found (Some run) = Ok (found ++ nets run)

-- the wires of an expression's part, after those before it
unfoldable pub add_part : Scope → List Wire → PartDecl → Result (List Wire) VerFault
add_part scope found p = elim p.part [ Bits bits ↦ Ok (found ++ constants bits) | Net name select ↦ with_run p.offset found (run_of scope name select) ]

-- the wires of an expression: the leftmost part is the most significant
abbrev pub wires_of : Scope → List PartDecl → Result (List Wire) VerFault
wires_of scope parts = fold_ok (add_part scope) [] parts

-- the one wire
abbrev pub only : ℕ → List Wire → Result Wire VerFault
only offset [] = Err (fault.Width offset)
only offset (w ∷ []) = Ok w
only offset (v ∷ w ∷ ws) = Err (fault.Width offset)

-- a net, which a constant is not
abbrev pub driven : ℕ → Wire → Result ℕ VerFault
driven offset (wire.Const b) = Err (fault.Syntax offset)
driven offset (wire.Net n) = Ok n

-- the wire of a terminal, which is one bit wide
unfoldable pub wire_of : Scope → TermDecl → Result Wire VerFault
wire_of scope t = wires_of scope t.parts >>= λ ws. only t.offset ws

-- the net of an output terminal
unfoldable pub net_of : Scope → TermDecl → Result ℕ VerFault
net_of scope t = wire_of scope t >>= λ w. driven t.offset w
