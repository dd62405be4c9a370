-- Clock gates (Liberty, attribute `clock_gating_integrated_cell`).
use Rattle.std.specs.Prelude.{ℕ, Bool, not, ◌==◌, ◌&&◌, ◌||◌, if◌then◌else◌, List, [], ◌∷◌, length, codes, Option, Some, None}
use Rattle.std.specs.List.{list_all}
use Rattle.texts.specs.Reads.{◌>>=◌}
use Rattle.lib_words.specs.declared.kinds.AttributeKind.TheVariants as attribute
use Rattle.lib_words.specs.declared.groups.Part.{Part}
use Rattle.lib_words.specs.declared.groups.CellGroup.{CellGroup}
use Rattle.cell_types.specs.declared.libraries.GateCell.{GateCell}
use Rattle.cell_lib.specs.declared.pins.Role.TheVariants as role
use Rattle.cell_lib.specs.Values.{says}
use Rattle.cell_lib.specs.Pins.{is_pin, is_input, is_output, has_true, names_of, names_differ}

-- the attribute that makes the cell a clock gate is given, quoted or not, as this word
abbrev pub is_gated_as : List ℕ → CellGroup → Bool
is_gated_as word g = says attribute.ClockGatingIntegratedCell word g.attributes

-- test pins enable too
abbrev pub is_precontrol : CellGroup → Bool
is_precontrol g = is_gated_as (codes "latch_posedge_precontrol") g

-- the cell gates the rising edge
abbrev pub is_posedge : CellGroup → Bool
is_posedge g = is_gated_as (codes "latch_posedge") g || is_precontrol g

-- an enable, or a test pin where the cell has a precontrol
abbrev pub is_enable : CellGroup → Part → Bool
is_enable g p = has_true attribute.ClockGateEnablePin p || (is_precontrol g && has_true attribute.ClockGateTestPin p)

-- the clock or an enable
abbrev pub is_gate_input : CellGroup → Part → Bool
is_gate_input g p = is_input p && (has_true attribute.ClockGateClockPin p || is_enable g p)

-- an output that is gated
abbrev pub is_gate_output : Part → Bool
is_gate_output p = is_output p && has_true attribute.ClockGateOutPin p

-- no input and no output: such pins of a clock gate are passed over
abbrev pub is_internal : Part → Bool
is_internal p = is_pin p.kind && says attribute.Direction (codes "internal") p.attributes

-- a pin of a clock gate is the clock, an enable, a gated output, or internal
abbrev pub is_gate_part : CellGroup → Part → Bool
is_gate_part g p = not (is_pin p.kind) || (is_gate_input g p || (is_gate_output p || is_internal p))

-- the cell gates the rising edge, each pin is such as a clock gate has, and pins and power pins have names that differ
unfoldable pub has_gate_pins : CellGroup → Bool
has_gate_pins g = is_posedge g && (list_all (is_gate_part g) g.parts && names_differ role.Pin g.parts)

-- one name alone
abbrev pub only : List (List ℕ) → Option (List ℕ)
only (n ∷ []) = Some n
only _ = None

-- one name at least
abbrev pub some_names : List (List ℕ) → Option (List (List ℕ))
some_names names = if length names == 0 then None else Some names

-- the clock gate that a cell is: it has one clock pin, another input pin at least, in the order of the text, and one output pin
unfoldable pub gate_of : CellGroup → Option GateCell
gate_of g =
    if has_gate_pins g then (
    only (names_of role.GateClock g.parts) >>= λ clock.
    some_names (names_of role.GateData g.parts) >>= λ enables.
    only (names_of role.Output g.parts) >>= λ out.
    Some (record { clock = clock; enables = enables; out = out })
    ) else None
