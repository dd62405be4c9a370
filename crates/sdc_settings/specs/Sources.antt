-- Which input bit the source of a clock is, and by which name a clock goes (SDC 2.1, create_clock).
use Rattle.std.specs.Prelude.{ℕ, if◌then◌else◌, List, [], ◌∷◌, map, flat_map, Option, Some, None}
use Rattle.std.specs.List.{list_all}
use Rattle.std.specs.Str.{bytes_eq}
use Rattle.linked_types.specs.declared.names.PortName.{PortName}
use Rattle.script_types.specs.declared.objects.Object.{Object}
use Rattle.sdc_settings.specs.Inputs.{is_port_object, port_places, name_at}

-- the one name that stands in a list, however often
abbrev pub one_name : List (List ℕ) → Option (List ℕ)
one_name [] = None
one_name (name ∷ names) = if list_all (bytes_eq name) names then Some name else None

-- the names of the input bits that the objects of a source name
abbrev pub source_names : List PortName → List Object → List (List ℕ)
source_names inputs source = map (name_at inputs) (flat_map (port_places inputs) source)

-- the input bit that a source is: its objects name ports alone, and exactly one input bit, however often
unfoldable pub source_bit : List PortName → List Object → Option (List ℕ)
source_bit inputs source = if list_all is_port_object source then one_name (source_names inputs source) else None

-- a clock goes by its own name, and without one by that of the input bit that its source is
abbrev pub clock_name : List PortName → Option (List ℕ) → List Object → Option (List ℕ)
clock_name inputs (Some own) source = Some own
clock_name inputs None source = source_bit inputs source
