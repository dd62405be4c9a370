-- The commands by their names (SDC 2.1).
use Rattle.std.specs.Prelude.{ℕ, Bool, true, false, ◌||◌, if◌then◌else◌, List, Option, Some, None, codes}
use Rattle.std.specs.Str.{bytes_eq}
use Rattle.run_options.specs.declared.forms.ScriptForm.{ScriptForm}
use Rattle.run_options.specs.declared.forms.ScriptForm.TheVariants as form
use Rattle.sdc_text.specs.Forms.{skips}
use Rattle.sdc_text.specs.declared.kinds.CommandKind.{CommandKind}
use Rattle.sdc_text.specs.declared.kinds.CommandKind.TheVariants as kind
use Rattle.sdc_text.specs.declared.options.PathCommand.TheVariants as path

-- commands that are passed over: the delays and loads of inputs and outputs, and what drives them
unfoldable pub is_delay : List ℕ → Bool
is_delay x =
    if bytes_eq x (codes "set_input_delay") then true
    else if bytes_eq x (codes "set_output_delay") then true
    else if bytes_eq x (codes "set_load") then true
    else if bytes_eq x (codes "set_driving_cell") then true
    else if bytes_eq x (codes "set_drive") then true
    else if bytes_eq x (codes "set_input_transition") then true
    else if bytes_eq x (codes "set_fanout_load") then true
    else if bytes_eq x (codes "set_port_fanout_number") then true
    else if bytes_eq x (codes "set_resistance") then true
    else if bytes_eq x (codes "set_ideal_network") then true
    else false

-- commands that are passed over: the properties of clocks, and checks that are no exceptions
unfoldable pub is_clock : List ℕ → Bool
is_clock x =
    if bytes_eq x (codes "set_clock_uncertainty") then true
    else if bytes_eq x (codes "set_clock_latency") then true
    else if bytes_eq x (codes "set_clock_transition") then true
    else if bytes_eq x (codes "set_propagated_clock") then true
    else if bytes_eq x (codes "set_clock_groups") then true
    else if bytes_eq x (codes "set_clock_gating_check") then true
    else if bytes_eq x (codes "set_ideal_latency") then true
    else if bytes_eq x (codes "set_ideal_transition") then true
    else if bytes_eq x (codes "set_data_check") then true
    else if bytes_eq x (codes "set_min_pulse_width") then true
    else if bytes_eq x (codes "set_disable_timing") then true
    else if bytes_eq x (codes "set_timing_derate") then true
    else false

-- commands that are passed over: the limits of delays, slopes, loads, area and power
unfoldable pub is_limit : List ℕ → Bool
is_limit x =
    if bytes_eq x (codes "set_max_delay") then true
    else if bytes_eq x (codes "set_min_delay") then true
    else if bytes_eq x (codes "set_max_transition") then true
    else if bytes_eq x (codes "set_max_fanout") then true
    else if bytes_eq x (codes "set_max_capacitance") then true
    else if bytes_eq x (codes "set_max_area") then true
    else if bytes_eq x (codes "set_min_capacitance") then true
    else if bytes_eq x (codes "set_max_dynamic_power") then true
    else if bytes_eq x (codes "set_max_leakage_power") then true
    else if bytes_eq x (codes "set_dont_touch") then true
    else if bytes_eq x (codes "group_path") then true
    else false

-- commands that are passed over: the conditions, wire loads and supplies
unfoldable pub is_setting : List ℕ → Bool
is_setting x =
    if bytes_eq x (codes "set_units") then true
    else if bytes_eq x (codes "set_operating_conditions") then true
    else if bytes_eq x (codes "set_wire_load_model") then true
    else if bytes_eq x (codes "set_wire_load_mode") then true
    else if bytes_eq x (codes "set_wire_load_selection_group") then true
    else if bytes_eq x (codes "set_wire_load_min_block_size") then true
    else if bytes_eq x (codes "set_voltage") then true
    else if bytes_eq x (codes "create_voltage_area") then true
    else if bytes_eq x (codes "set_level_shifter_strategy") then true
    else if bytes_eq x (codes "set_level_shifter_threshold") then true
    else if bytes_eq x (codes "current_design") then true
    else false

-- the commands that change no exception
abbrev pub is_passed_over : List ℕ → Bool
is_passed_over x = is_delay x || (is_clock x || (is_limit x || is_setting x))

-- the kind of command of this name in a narrow script
unfoldable pub narrow_kind : List ℕ → Option CommandKind
narrow_kind x =
    if bytes_eq x (codes "set") then Some kind.Set
    else if bytes_eq x (codes "create_clock") then Some kind.Clock
    else if bytes_eq x (codes "set_case_analysis") then Some kind.Case
    else if bytes_eq x (codes "set_false_path") then Some (kind.Path path.FalsePath)
    else if bytes_eq x (codes "set_multicycle_path") then Some (kind.Path path.Multicycle)
    else if is_passed_over x then Some kind.Passed
    else None

-- commands of a wide script that a timing analyser obeys, and of whose effect no verdict speaks
unfoldable pub is_unjudged : List ℕ → Bool
is_unjudged x =
    if bytes_eq x (codes "set_clock_groups") then true
    else if bytes_eq x (codes "set_disable_timing") then true
    else if bytes_eq x (codes "set_max_delay") then true
    else if bytes_eq x (codes "set_min_delay") then true
    else false

-- the kind of command of this name in a wide script, where it is another than in a narrow one
unfoldable pub wide_kind : List ℕ → Option CommandKind
wide_kind x =
    if is_unjudged x then Some kind.Unjudged
    else if bytes_eq x (codes "current_design") then Some kind.Scope
    else if bytes_eq x (codes "set_input_delay") then Some (kind.Delay false)
    else if bytes_eq x (codes "set_output_delay") then Some (kind.Delay true)
    else if bytes_eq x (codes "set_logic_zero") then Some (kind.Constant false)
    else if bytes_eq x (codes "set_logic_one") then Some (kind.Constant true)
    else if bytes_eq x (codes "current_instance") then Some kind.Instance
    else if bytes_eq x (codes "set_hierarchy_separator") then Some kind.Separator
    else if bytes_eq x (codes "create_generated_clock") then Some kind.Generated
    else None

abbrev pub or_else : Option CommandKind → Option CommandKind → Option CommandKind
or_else (Some found) other = Some found
or_else None other = other

-- a command that is passed over by its name alone
abbrev pub skipped_kind : ScriptForm → List ℕ → Option CommandKind
skipped_kind form x = if skips form x then Some kind.Unjudged else None

-- the kind of command of this name
unfoldable pub command_kind : ScriptForm → List ℕ → Option CommandKind
command_kind form.Narrow x = narrow_kind x
command_kind (form.Wide names) x = or_else (wide_kind x) (or_else (narrow_kind x) (skipped_kind (form.Wide names) x))
