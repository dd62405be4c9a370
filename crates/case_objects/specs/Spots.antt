-- What the objects of a case analysis name: data inputs where an object is one of ports, and else pins or nets inside the design.
use Rattle.std.specs.Prelude.{ℕ, Bool, true, false, if◌then◌else◌, List, [], ◌∷◌, map}
use Rattle.std.specs.List.{list_any}
use Rattle.linked_types.specs.declared.names.Names.{Names}
use Rattle.linked_types.specs.declared.names.CellName.{CellName}
use Rattle.linked_types.specs.declared.names.PinName.{PinName}
use Rattle.linked_types.specs.declared.names.PortName.{PortName}
use Rattle.linked_types.specs.declared.names.NetName.{NetName}
use Rattle.script_types.specs.declared.objects.Class.{Class}
use Rattle.script_types.specs.declared.objects.Class.TheVariants as class
use Rattle.script_types.specs.declared.objects.Query.{Query}
use Rattle.script_types.specs.declared.objects.Object.{Object}
use Rattle.script_types.specs.declared.objects.Object.TheVariants.{Named, AllInputs}
use Rattle.sdcv_base.specs.Seqs.{each_at, where_true}
use Rattle.sdc_settings.specs.Inputs.{names_bit}
use Rattle.sdc_objects.specs.Clocks.{input_ports}
use Rattle.sdc_objects.specs.Things.{names, pin_name, first_some}
use Rattle.sdc_objects.specs.declared.things.Thing.{Thing}
use Rattle.sdc_objects.specs.declared.things.Thing.TheVariants as thing
use Rattle.case_objects.specs.declared.spots.Spot.{Spot}

-- a pattern of this class is one of ports; outside a `get_` command it is where it matches an input port bit
abbrev pub is_of_ports : Class → Bool → Bool
is_of_ports class.Ports matching = true
is_of_ports class.Any matching = matching
is_of_ports _ matching = false

-- the pattern matches an input port bit, the clock's among them
abbrev pub matches_input : Names → Query → Bool
matches_input n q = list_any (names_bit q) (input_ports n)

-- a port object: `all_inputs`, an object of class Ports, and a pattern outside a `get_` command that matches an input port bit;
-- each other one is an inner object
abbrev pub is_port_object : Names → Object → Bool
is_port_object n AllInputs = true
is_port_object n (Named q) = is_of_ports q.class (matches_input n q)
is_port_object n _ = false

-- the classes in which the pattern of an inner object is looked for, the first one that has it counting
abbrev pub inner_classes : Class → List Class
inner_classes class.Any = class.Pins ∷ class.Nets ∷ []
inner_classes class.Pins = class.Pins ∷ []
inner_classes class.Nets = class.Nets ∷ []
inner_classes _ = []

abbrev pub classes : Names → Query → List Class
classes n q = if is_of_ports q.class (matches_input n q) then class.Ports ∷ [] else inner_classes q.class

-- a thing by its full name
abbrev pub spot : List ℕ → Thing → Spot
spot name t = record { name = name; thing = t }

-- a data input bit that a pattern names, by its own name or that of its bus
abbrev pub bit_spot : Query → ℕ → PortName → List Spot
bit_spot q i p = where_true (names_bit q p) (spot p.name (thing.In i))

-- a pin of a cell, by the full name
abbrev pub pin_spot : Query → ℕ → List ℕ → ℕ → PinName → List Spot
pin_spot q k cell place p = where_true (names q (pin_name cell p.name)) (spot (pin_name cell p.name) (thing.Pin k place))

abbrev pub pin_spots : Query → ℕ → CellName → List Spot
pin_spots q k c = each_at (pin_spot q k c.name) 0 c.pins

-- a net
abbrev pub net_spot : Query → ℕ → NetName → List Spot
net_spot q place n = where_true (names q n.name) (spot n.name (thing.Net n.net))

-- all that a pattern names in a class, in the order of the table of names
abbrev pub spots_in : Names → Query → Class → List Spot
spots_in n q class.Ports = each_at (bit_spot q) 0 n.ins
spots_in n q class.Pins = each_at (pin_spots q) 0 n.cells
spots_in n q class.Nets = each_at (net_spot q) 0 n.nets
spots_in n q _ = []

-- all that an object of a case analysis names
abbrev pub spots : Names → Object → List Spot
spots n (Named q) = first_some (map (spots_in n q) (classes n q))
spots n AllInputs = each_at (λ i (p : PortName). spot p.name (thing.In i) ∷ []) 0 n.ins
spots n _ = []
