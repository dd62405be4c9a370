-- What has a name, and what an object of a script names (SDC 2.1, object access).
use Rattle.std.specs.Prelude.{ℕ, nat_lt, Bool, true, false, ◌&&◌, ◌||◌, List, [], ◌∷◌, ◌++◌, map, length, count_by, Option, Some, None}
use Rattle.std.specs.Option.{is_some}
use Rattle.glob.specs.Match.{matches}
use Rattle.linked_types.specs.declared.names.Linked.{Linked}
use Rattle.linked_types.specs.declared.names.Names.{Names}
use Rattle.linked_types.specs.declared.names.CellName.{CellName}
use Rattle.linked_types.specs.declared.names.PinName.{PinName}
use Rattle.linked_types.specs.declared.names.PortName.{PortName}
use Rattle.linked_types.specs.declared.names.NetName.{NetName}
use Rattle.script_types.specs.declared.objects.Class.{Class}
use Rattle.script_types.specs.declared.objects.Class.TheVariants as class
use Rattle.script_types.specs.declared.objects.Query.{Query}
use Rattle.script_types.specs.declared.objects.Object.{Object}
use Rattle.script_types.specs.declared.objects.Object.TheVariants.{Named, AllInputs, AllOutputs, AllRegisters, AllClocks}
use Rattle.script_types.specs.declared.scripts.What.TheVariants.{Clock as ClockCommand}
use Rattle.script_types.specs.declared.scripts.Command.{Command}
use Rattle.script_types.specs.declared.scripts.Script.{Script}
use Rattle.sdc_settings.specs.Inputs.{names_bit}
use Rattle.sdc_settings.specs.Sources.{clock_name}
use Rattle.sdc_objects.specs.Clocks.{input_ports, clock_kind}
use Rattle.sdcv_base.specs.Seqs.{each_at, where_true}
use Rattle.sdc_objects.specs.declared.things.Thing.{Thing}
use Rattle.sdc_objects.specs.declared.things.Thing.TheVariants as thing
use Rattle.sdc_objects.specs.declared.things.Place.{Place}
use Rattle.sdc_objects.specs.declared.things.Place.TheVariants.{From, To, Through}
use Rattle.sdc_objects.specs.declared.things.Side.{Side}
use Rattle.sdc_objects.specs.declared.things.Side.TheVariants.{In, Out}

-- the pattern matches a name
abbrev pub names : Query → List ℕ → Bool
names q name = matches q.pattern name q.hier

-- the cell at a place, by its full name
abbrev pub cell_named : Query → ℕ → CellName → List Thing
cell_named q k c = where_true (names q c.name) (thing.Cell k)

-- a pin's name is that of its cell, `/` and its own
abbrev pub pin_name : List ℕ → List ℕ → List ℕ
pin_name cell pin = cell ++ 47 ∷ pin

-- a pin, by its place among those of the cell at a place
abbrev pub pin_named : Query → ℕ → List ℕ → ℕ → PinName → List Thing
pin_named q k cell place p = where_true (names q (pin_name cell p.name)) (thing.Pin k place)

-- the pins of the cell at a place
abbrev pub pins_named : Query → ℕ → CellName → List Thing
pins_named q k c = each_at (pin_named q k c.name) 0 c.pins

-- the net of a full name
abbrev pub net_named : Query → ℕ → NetName → List Thing
net_named q place n = where_true (names q n.name) (thing.Net n.net)

-- a port bit, by its place among the inputs or the outputs
abbrev pub bit_of : Side → ℕ → Thing
bit_of In place = thing.In place
bit_of Out place = thing.Out place

-- a port bit, by its own name or that of its bus
abbrev pub bit_named : Query → Side → ℕ → PortName → List Thing
bit_named q side place p = where_true (names_bit q p) (bit_of side place)

-- the clock port, by its own name alone
abbrev pub clock_port_named : Query → Option PortName → List Thing
clock_port_named q None = []
clock_port_named q (Some port) = where_true (names q port.name) thing.ClockPort

-- the pattern matches the name, if there is one
abbrev pub names_some : Query → Option (List ℕ) → Bool
names_some q None = false
names_some q (Some name) = names q name

-- the clock that the command at a place makes, by its name
abbrev pub clock_named : Query → Names → ℕ → Command → List Thing
clock_named q n place c = elim c.what as (λ w. List Thing) [
  | ClockCommand name source ↦ where_true (names_some q (clock_name (input_ports n) name source)) (thing.Clock place (clock_kind n source))
  | _ ↦ []
]

-- the ports: the data inputs, the clock port and the outputs
abbrev pub ports_named : Query → Names → List Thing
ports_named q n = each_at (bit_named q In) 0 n.ins ++ clock_port_named q n.clock ++ each_at (bit_named q Out) 0 n.outs

-- all that a pattern names in a class
abbrev pub found : Linked → Script → Query → Class → List Thing
found l script q class.Ports = ports_named q l.names
found l script q class.Cells = each_at (cell_named q) 0 l.names.cells
found l script q class.Pins = each_at (pins_named q) 0 l.names.cells
found l script q class.Nets = each_at (net_named q) 0 l.names.nets
found l script q class.Clocks = each_at (clock_named q l.names) 0 script.commands
found l script q class.Any = []

-- the classes in which a pattern is looked for, the first one that has it counting (the order is this tool's own)
abbrev pub classes : Place → Class → List Class
classes From class.Any = class.Ports ∷ class.Cells ∷ class.Pins ∷ class.Clocks ∷ []
classes To class.Any = class.Ports ∷ class.Cells ∷ class.Pins ∷ class.Clocks ∷ []
classes Through class.Any = class.Pins ∷ class.Cells ∷ class.Ports ∷ class.Nets ∷ []
classes place c = c ∷ []

-- the first list that is not empty
abbrev pub first_some : {A : Type 0} → List (List A) → List A
first_some [] = []
first_some ([] ∷ rest) = first_some rest
first_some ((x ∷ xs) ∷ rest) = x ∷ xs

-- a cell that is a register
abbrev pub cell_of_reg : ℕ → Option ℕ → List Thing
cell_of_reg k reg = where_true (is_some reg) (thing.Cell k)

-- the clock that the command at a place makes, whatever its name
abbrev pub any_clock : Names → ℕ → Command → List Thing
any_clock n place c = elim c.what as (λ w. List Thing) [ ClockCommand name source ↦ thing.Clock place (clock_kind n source) ∷ [] | _ ↦ [] ]

-- all that an object names in a place of an exception
abbrev pub things_of : Linked → Script → Place → Object → List Thing
things_of l script place (Named q) = first_some (map (found l script q) (classes place q.class))
things_of l script place AllInputs = each_at (λ i (p : PortName). bit_of In i ∷ []) 0 l.names.ins
things_of l script place AllOutputs = each_at (λ o (p : PortName). bit_of Out o ∷ []) 0 l.names.outs
things_of l script place AllRegisters = each_at (λ k (c : CellName). cell_of_reg k c.reg) 0 l.names.cells
things_of l script place AllClocks = each_at (any_clock l.names) 0 script.commands

-- the pattern is found in a class
abbrev pub is_found : Linked → Script → Query → Class → Bool
is_found l script q c = nat_lt 0 (length (found l script q c))

-- whether a pattern outside a `get_` command is found, kind by kind; in through a port and its net are of one kind
abbrev pub kinds_found : Linked → Script → Place → Query → List Bool
kinds_found l script Through q =
    is_found l script q class.Pins ∷ is_found l script q class.Cells ∷ (is_found l script q class.Ports || is_found l script q class.Nets) ∷ []
kinds_found l script place q = map (is_found l script q) (classes place class.Any)

-- two of these are true, or more
abbrev pub has_two : List Bool → Bool
has_two found = nat_lt 1 (count_by (λ (b : Bool). b) found)

abbrev pub is_any : Class → Bool
is_any class.Any = true
is_any _ = false

-- it names things of two kinds, and stands for those of the first class alone
abbrev pub is_several : Linked → Script → Place → Query → Bool
is_several l script place q = is_any q.class && has_two (kinds_found l script place q)
