-- Tests of the pins of an instance.
use Rattle.std.specs.Prelude.{ℕ, ◌==◌, Bool, true, false, not, List, length, map}
use Rattle.std.specs.List.{list_any}
use Rattle.texts.specs.Names.{is_among}
use Rattle.netlist_types.specs.declared.sources.Module.{Module}
use Rattle.netlist_types.specs.declared.sources.Port.{Port}
use Rattle.netlist_types.specs.declared.sources.Conn.{Conn}
use Rattle.netlist_types.specs.declared.sources.Wire.{Wire}
use Rattle.netlist_types.specs.declared.sources.Wire.TheVariants as wire
use Rattle.link_defs.specs.Hierarchy.{wires_of}

-- the pins that are connected
abbrev pub pin_names : List Conn → List (List ℕ)
pin_names conns = map (λ (c : Conn). c.pin) conns

-- nothing is connected to the pin
abbrev pub is_open : List Conn → List ℕ → Bool
is_open conns pin = length (wires_of conns pin) == 0

-- the wire is a constant
abbrev pub is_const : Wire → Bool
is_const (wire.Const b) = true
is_const (wire.Net n) = false

-- a constant is connected to the pin
abbrev pub is_tied : List Conn → List ℕ → Bool
is_tied conns pin = list_any is_const (wires_of conns pin)

-- the connection is to none of these pins
abbrev pub is_unknown : List (List ℕ) → Conn → Bool
is_unknown pins c = not (is_among c.pin pins)

-- the names of the ports of a module
abbrev pub port_names : Module → List (List ℕ)
port_names m = map (λ (p : Port). p.name) m.ports
