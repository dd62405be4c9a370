-- The pins of a cell, in the order of the text.
use Rattle.std.specs.Prelude.{ℕ, Bool, true, false, not, ◌&&◌, ◌||◌, if◌then◌else◌, List, [], map, codes}
use Rattle.std.specs.List.{flat_map, list_any}
use Rattle.texts.specs.Names.{are_distinct}
use Rattle.lib_words.specs.declared.kinds.PartKind.{PartKind}
use Rattle.lib_words.specs.declared.kinds.PartKind.TheVariants as part
use Rattle.lib_words.specs.declared.kinds.AttributeKind.{AttributeKind}
use Rattle.lib_words.specs.declared.kinds.AttributeKind.TheVariants as attribute
use Rattle.lib_words.specs.declared.groups.Attribute.{Attribute}
use Rattle.lib_words.specs.declared.groups.Part.{Part}
use Rattle.lib_words.specs.declared.groups.CellGroup.{CellGroup}
use Rattle.cell_lib.specs.declared.pins.Role.{Role}
use Rattle.cell_lib.specs.declared.pins.Role.TheVariants as role
use Rattle.cell_lib.specs.declared.pins.OutPin.{OutPin}
use Rattle.cell_lib.specs.Values.{says, expr_of}

-- the groups that name pins, power pins, and the state of a flop
abbrev pub is_pin : PartKind → Bool
is_pin part.Pin = true
is_pin _ = false

abbrev pub is_power : PartKind → Bool
is_power part.PgPin = true
is_power _ = false

abbrev pub is_ff : PartKind → Bool
is_ff part.Ff = true
is_ff _ = false

abbrev pub is_memory : PartKind → Bool
is_memory part.Memory = true
is_memory _ = false

-- the groups that name pins, or several at once
abbrev pub is_wide_pin : PartKind → Bool
is_wide_pin part.Pin = true
is_wide_pin part.Bus = true
is_wide_pin part.Bundle = true
is_wide_pin _ = false

-- a group with which a cell is not modelled, and in whose cell no function is read
abbrev pub is_unmodelled_group : PartKind → Bool
is_unmodelled_group part.FfBank = true
is_unmodelled_group part.Latch = true
is_unmodelled_group part.LatchBank = true
is_unmodelled_group part.Statetable = true
is_unmodelled_group part.Bus = true
is_unmodelled_group part.Bundle = true
is_unmodelled_group _ = false

abbrev pub has_unmodelled_group : List Part → Bool
has_unmodelled_group parts = list_any (λ (p : Part). is_unmodelled_group p.kind) parts

-- an attribute with which a cell is not modelled
abbrev pub is_unmodelled_attribute : AttributeKind → Bool
is_unmodelled_attribute attribute.ThreeState = true
is_unmodelled_attribute attribute.ClockedOnAlso = true
is_unmodelled_attribute attribute.ClockGatingIntegratedCell = true
is_unmodelled_attribute _ = false

abbrev pub has_unmodelled_attribute : List Attribute → Bool
has_unmodelled_attribute attributes = list_any (λ (a : Attribute). is_unmodelled_attribute a.kind) attributes

abbrev pub is_input : Part → Bool
is_input p = is_pin p.kind && says attribute.Direction (codes "input") p.attributes

abbrev pub is_output : Part → Bool
is_output p = is_pin p.kind && says attribute.Direction (codes "output") p.attributes

-- the group is of pins, buses or bundles of this direction
abbrev pub is_wide : List ℕ → Part → Bool
is_wide direction p = is_wide_pin p.kind && says attribute.Direction direction p.attributes

-- the attribute is given, quoted or not, as true
abbrev pub has_true : AttributeKind → Part → Bool
has_true kind p = says kind (codes "true") p.attributes

-- the group is of the clock pin of a clock gate
abbrev pub is_gate_clock : Part → Bool
is_gate_clock p = is_input p && has_true attribute.ClockGateClockPin p

-- it is of other input pins
abbrev pub is_gate_data : Part → Bool
is_gate_data p = is_input p && not (has_true attribute.ClockGateClockPin p)

-- the group names what is asked for: input pins, or of a clock gate the clock pin or the other input pins; output pins; power pins; pins and
-- power pins; whatever has a name of its own in a cell; or input or output pins, with buses and bundles of them
abbrev pub has_role : Role → Part → Bool
has_role role.Input p = is_input p
has_role role.GateClock p = is_gate_clock p
has_role role.GateData p = is_gate_data p
has_role role.Output p = is_output p
has_role role.Power p = is_power p.kind
has_role role.Pin p = is_pin p.kind || is_power p.kind
has_role role.Any p = is_pin p.kind || (is_power p.kind || is_ff p.kind)
has_role role.WideInput p = is_wide (codes "input") p
has_role role.WideOutput p = is_wide (codes "output") p

abbrev pub names_in : Role → Part → List (List ℕ)
names_in role p = if has_role role p then p.names else []

abbrev pub names_of : Role → List Part → List (List ℕ)
names_of role parts = flat_map (names_in role) parts

-- the output pins that a group names, each with the group's function
abbrev pub outs_in : Part → List OutPin
outs_in p = if is_output p then map (λ n. record { name = n; func = expr_of attribute.Function p.attributes }) p.names else []

abbrev pub outs_of : List Part → List OutPin
outs_of parts = flat_map outs_in parts

-- a pin is an input or an output
abbrev pub is_directed : Part → Bool
is_directed p = not (is_pin p.kind) || (is_input p || is_output p)

-- an attribute with which a cell is not modelled stands in the group; none that stands in a memory counts
abbrev pub is_unmodelled_part : Part → Bool
is_unmodelled_part p = not (is_memory p.kind) && has_unmodelled_attribute p.attributes

abbrev pub has_unmodelled_part : List Part → Bool
has_unmodelled_part parts = list_any is_unmodelled_part parts

-- each group and attribute of the cell can be modelled
abbrev pub can_be_modelled : CellGroup → Bool
can_be_modelled g = not (has_unmodelled_group g.parts) && not (has_unmodelled_attribute g.attributes || has_unmodelled_part g.parts)

-- what is asked for has names that differ
abbrev pub names_differ : Role → List Part → Bool
names_differ role parts = are_distinct (names_of role parts)
