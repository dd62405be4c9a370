-- The bits of input ports without the clock's, and the clock's.
use Rattle.std.specs.Prelude.{ℕ, Bool, false, List, [], ◌∷◌, flat_map, find, if◌then◌else◌, Option, Some, None}
use Rattle.std.specs.Str.{bytes_eq}
use Rattle.linked_types.specs.declared.names.PortName.{PortName}

-- the name is the clock's
abbrev pub is_clock : Option (List ℕ) → List ℕ → Bool
is_clock None name = false
is_clock (Some clock) name = bytes_eq name clock

-- a bit, if it is not the clock's
abbrev pub data_port : Option (List ℕ) → PortName → List PortName
data_port clock p = if is_clock clock p.name then [] else p ∷ []

-- those of these bits
abbrev pub data_ports : Option (List ℕ) → List PortName → List PortName
data_ports clock ports = flat_map (data_port clock) ports

-- the clock's, if it is there
abbrev pub clock_in : Option (List ℕ) → List PortName → Option PortName
clock_in clock ports = find (λ (p : PortName). is_clock clock p.name) ports
