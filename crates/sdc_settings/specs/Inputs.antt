-- Which input bits the objects of a script name (SDC 2.1, object access). An input bit goes by its place.
use Rattle.std.specs.Prelude.{ℕ, Bool, true, false, ◌||◌, List, [], length, filter, Option, Some, None, slice_get, codes}
use Rattle.std.specs.List.{range_with_len}
use Rattle.glob.specs.Match.{matches}
use Rattle.linked_types.specs.declared.names.PortName.{PortName}
use Rattle.script_types.specs.declared.objects.Class.{Class}
use Rattle.script_types.specs.declared.objects.Class.TheVariants as class
use Rattle.script_types.specs.declared.objects.Query.{Query}
use Rattle.script_types.specs.declared.objects.Object.{Object}
use Rattle.script_types.specs.declared.objects.Object.TheVariants.{Named, AllInputs, AllOutputs, AllRegisters, AllClocks}

-- the classes of patterns that may name ports
abbrev pub is_port_class : Class → Bool
is_port_class class.Ports = true
is_port_class class.Any = true
is_port_class _ = false

-- a pattern that may name ports; no `all_` list does here
abbrev pub is_port_object : Object → Bool
is_port_object (Named q) = is_port_class q.class
is_port_object _ = false

-- the pattern matches the bus of which a bit is, if it is one of a bus
abbrev pub names_bus : Query → Option (List ℕ) → Bool
names_bus q None = false
names_bus q (Some bus) = matches q.pattern bus q.hier

-- the pattern matches the name of a bit or that of its bus
abbrev pub names_bit : Query → PortName → Bool
names_bit q p = matches q.pattern p.name q.hier || names_bus q p.bus

-- the name of a bit, and no bytes where there is none
abbrev pub name_of : Option PortName → List ℕ
name_of None = []
name_of (Some p) = p.name

-- the name of the input bit at a place
abbrev pub name_at : List PortName → ℕ → List ℕ
name_at inputs place = name_of (slice_get inputs place)

-- the pattern names a bit, if there is one
abbrev pub names_one : Query → Option PortName → Bool
names_one q None = false
names_one q (Some p) = names_bit q p

-- the pattern names the input bit at a place
abbrev pub names_input : Query → List PortName → ℕ → Bool
names_input q inputs place = names_one q (slice_get inputs place)

-- the places of all input bits
abbrev pub places : List PortName → List ℕ
places inputs = range_with_len 0 (length inputs)

-- the places of the input bits that a pattern names
unfoldable pub named_places : Query → List PortName → List ℕ
named_places q inputs = filter (names_input q inputs) (places inputs)

-- the places of the input bits that an object names, none where it may name no ports
abbrev pub port_places : List PortName → Object → List ℕ
port_places inputs (Named q) = named_places q inputs
port_places inputs _ = []

-- how a refusal or a warning names an object
abbrev pub object_text : Object → List ℕ
object_text (Named q) = q.pattern
object_text AllInputs = codes "all_inputs"
object_text AllOutputs = codes "all_outputs"
object_text AllRegisters = codes "all_registers"
object_text AllClocks = codes "all_clocks"
