-- The list of names of commands that are passed over: `NAME`, separated by commas.
use Rattle.std.specs.Prelude.{ℕ, ◌==◌, ◌||◌, not, Bool, true, false, List, [], ◌∷◌, codes, Option, None, Some, if◌then◌else◌}
use Rattle.std.specs.List.{list_all, list_any, slice_split}
use Rattle.std.specs.Str.{bytes_eq}

-- commands that are read as they are (SDC 2.1)
abbrev pub read_names : List (List ℕ)
read_names =
    codes "set" ∷ codes "create_clock" ∷ codes "set_case_analysis" ∷ codes "set_false_path" ∷ codes "set_multicycle_path"
    ∷ codes "set_logic_zero" ∷ codes "set_logic_one" ∷ codes "create_generated_clock" ∷ codes "current_instance"
    ∷ codes "set_hierarchy_separator" ∷ []

-- commands that are passed over as they are (SDC 2.1)
abbrev pub passed_names : List (List ℕ)
passed_names =
    codes "set_input_delay" ∷ codes "set_output_delay" ∷ codes "set_load" ∷ codes "set_driving_cell" ∷ codes "set_drive"
    ∷ codes "set_input_transition" ∷ codes "set_fanout_load" ∷ codes "set_port_fanout_number" ∷ codes "set_resistance"
    ∷ codes "set_ideal_network" ∷ codes "set_clock_uncertainty" ∷ codes "set_clock_latency" ∷ codes "set_clock_transition"
    ∷ codes "set_propagated_clock" ∷ codes "set_clock_groups" ∷ codes "set_clock_gating_check" ∷ codes "set_ideal_latency"
    ∷ codes "set_ideal_transition" ∷ codes "set_data_check" ∷ codes "set_min_pulse_width" ∷ codes "set_disable_timing"
    ∷ codes "set_timing_derate" ∷ codes "set_max_delay" ∷ codes "set_min_delay" ∷ codes "set_max_transition"
    ∷ codes "set_max_fanout" ∷ codes "set_max_capacitance" ∷ codes "set_max_area" ∷ codes "set_min_capacitance"
    ∷ codes "set_max_dynamic_power" ∷ codes "set_max_leakage_power" ∷ codes "set_dont_touch" ∷ codes "group_path"
    ∷ codes "set_units" ∷ codes "set_operating_conditions" ∷ codes "set_wire_load_model" ∷ codes "set_wire_load_mode"
    ∷ codes "set_wire_load_selection_group" ∷ codes "set_wire_load_min_block_size" ∷ codes "set_voltage"
    ∷ codes "create_voltage_area" ∷ codes "set_level_shifter_strategy" ∷ codes "set_level_shifter_threshold"
    ∷ codes "current_design" ∷ []

-- commands of Tcl that may hold others, or change what their words stand for
abbrev pub tcl_names : List (List ℕ)
tcl_names =
    codes "source" ∷ codes "if" ∷ codes "else" ∷ codes "elseif" ∷ codes "for" ∷ codes "foreach" ∷ codes "foreach_in_collection"
    ∷ codes "while" ∷ codes "proc" ∷ codes "eval" ∷ codes "uplevel" ∷ codes "namespace" ∷ codes "expr" ∷ codes "unset"
    ∷ codes "lappend" ∷ []

-- a command of one of these names
abbrev pub is_one_of : List (List ℕ) → List ℕ → Bool
is_one_of names name = list_any (λ one. bytes_eq name one) names

abbrev pub is_empty : List ℕ → Bool
is_empty [] = true
is_empty (b ∷ rest) = false

-- a name may be passed over where it is not empty and none of these
abbrev pub may_be_skipped : List ℕ → Bool
may_be_skipped name = not (is_empty name || (is_one_of read_names name || (is_one_of passed_names name || is_one_of tcl_names name)))

-- the names that a list spells, if each of them may be passed over
unfoldable pub skips_of : List ℕ → Option (List (List ℕ))
skips_of text =
    let names = slice_split (λ b. b == 44) text in
    if list_all may_be_skipped names then Some names else None
