-- The pins that connections name.
use Rattle.std.specs.Prelude.{ℕ, List, map}
use Rattle.verilog_syntax.specs.declared.declarations.ConnDecl.{ConnDecl}
use Rattle.netlist_types.specs.declared.sources.Conn.{Conn}

abbrev pub pins_of : List ConnDecl → List (List ℕ)
pins_of conns = map (λ (c : ConnDecl). c.pin) conns

-- the same of connections whose wires are known
abbrev pub pins_in : List Conn → List (List ℕ)
pins_in conns = map (λ (c : Conn). c.pin) conns
