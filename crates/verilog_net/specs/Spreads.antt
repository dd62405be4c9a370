-- Connections of any width, where the netlist is read wide and the instance is of no module of the text.
use Rattle.std.specs.Prelude.{ℕ, ◌==◌, if◌then◌else◌, List, [], ◌∷◌, ◌++◌, length, Some, None, Result, Ok}
use Rattle.texts.specs.Rules.{◌>>=◌}
use Rattle.verilog_syntax.specs.declared.declarations.ConnDecl.{ConnDecl}
use Rattle.netlist_types.specs.declared.faults.VerFault.{VerFault}
use Rattle.verilog_scope.specs.declared.scopes.Scope.{Scope}
use Rattle.verilog_scope.specs.Folds.{fold_ok}
use Rattle.verilog_scope.specs.Decls.{with_new}
use Rattle.verilog_scope.specs.Scopes.{bit_name}
use Rattle.netlist_types.specs.declared.sources.Wire.{Wire}
use Rattle.netlist_types.specs.declared.sources.Conn.{Conn}
use Rattle.verilog_net.specs.Pins.{pins_in}
use Rattle.verilog_net.specs.Wires.{wires_of}

-- a connection of one bit of a pin
abbrev pub bit_conn : List ℕ → ℕ → Wire → Conn
bit_conn pin index w = record { pin = bit_name pin index; wires = Some (w ∷ []) }

-- of w wires each is connected to a pin of its own: `P[w-1]`, .., `P[0]`, the most significant first
unfoldable pub bit_conns : List ℕ → List Wire → List Conn
bit_conns pin [] = []
bit_conns pin (w ∷ ws) = bit_conn pin (length ws) w ∷ bit_conns pin ws

-- a connection of one wire is one of the pin itself, and one of several wires is as many
abbrev pub spread : List ℕ → List Wire → List Conn
spread pin ws = if length ws == 1 then record { pin = pin; wires = Some ws } ∷ [] else bit_conns pin ws

-- the connections before it, with those of one bit that a connection is
unfoldable pub add_spread : Scope → List Conn → ConnDecl → Result (List Conn) VerFault
add_spread scope found c = elim c.parts [
  | None ↦ Ok (found ++ record { pin = c.pin; wires = None } ∷ [])
  | Some parts ↦ wires_of scope parts >>= λ ws. Ok (found ++ spread c.pin ws)
]

-- the connections of an instance, of one bit each; no two of them are of one pin
unfoldable pub wide_conns : Scope → List ConnDecl → Result (List Conn) VerFault
wide_conns scope cs =
    fold_ok (add_spread scope) [] cs >>= λ conns.
    fold_ok with_new [] (pins_in conns) >>= λ pins.
    Ok conns
