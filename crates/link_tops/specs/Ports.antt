-- The names of the bits of ports.
use Rattle.std.specs.Prelude.{ℕ, Bool, List, [], map, if◌then◌else◌, Some, None, slice_index_or}
use Rattle.netlist_types.specs.declared.sources.Module.{Module}
use Rattle.netlist_types.specs.declared.sources.Port.{Port}
use Rattle.linked_types.specs.declared.names.PortName.{PortName}

-- the name of a bit of a port, with the port's where that is a bus
abbrev pub bit_name : Module → Port → ℕ → PortName
bit_name m p net = record { name = slice_index_or m.nets net []; bus = if p.bus then Some p.name else None }

-- the names of the bits of a port that is wanted; another has none here
abbrev pub bit_names_if : Bool → Module → Port → List PortName
bit_names_if wanted m p = if wanted then map (bit_name m p) p.bits else []
