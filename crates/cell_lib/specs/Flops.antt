-- Flops (Liberty, group `ff`).
use Rattle.std.specs.Prelude.{ℕ, Bool, true, false, not, ◌&&◌, if◌then◌else◌, List, [], ◌∷◌, filter, codes, Option, Some, None, is_some}
use Rattle.std.specs.Option.{option_map}
use Rattle.std.specs.Str.{bytes_eq}
use Rattle.texts.specs.Names.{is_among, with_name, each_once}
use Rattle.texts.specs.Reads.{each, ◌>>=◌}
use Rattle.net_model.specs.Form.{Form}
use Rattle.cell_lib.specs.declared.scopes.States.{States}
use Rattle.lib_func.specs.Trees.{Tree, NameTree, NotTree}
use Rattle.cell_lib.specs.Scopes.{meaning, resolved}
use Rattle.lib_words.specs.declared.kinds.AttributeKind.TheVariants as attribute
use Rattle.lib_words.specs.declared.groups.Attribute.{Attribute}
use Rattle.lib_words.specs.declared.groups.Part.{Part}
use Rattle.cell_types.specs.declared.libraries.Flop.{Flop}
use Rattle.cell_types.specs.declared.libraries.FlopOut.{FlopOut}
use Rattle.cell_lib.specs.declared.pins.OutPin.{OutPin}
use Rattle.cell_lib.specs.declared.flops.Resets.{Resets}
use Rattle.cell_lib.specs.Values.{says, expr_of}

-- the group's two arguments: the state and its complement
abbrev pub states_of : List (List ℕ) → Option States
states_of (state ∷ complement ∷ []) = Some (record { state = state; complement = complement })
states_of _ = None

-- a name alone
abbrev pub lone_name : Option Tree → Option (List ℕ)
lone_name (Some (NameTree n)) = Some n
lone_name _ = None

-- the clock: one input pin without inversion
unfoldable pub clock_of : List (List ℕ) → List Attribute → Option (List ℕ)
clock_of inputs attributes = lone_name (expr_of attribute.ClockedOn attributes) >>= λ n. if is_among n inputs then Some n else None

-- the input pins other than the clock, each once
unfoldable pub data_inputs : List ℕ → List (List ℕ) → List (List ℕ)
data_inputs clock inputs = each_once (filter (λ n. not (bytes_eq n clock)) inputs)

-- the input pins so far with one more, if it is not the clock
abbrev pub with_data : List ℕ → List (List ℕ) → List ℕ → List (List ℕ)
with_data clock found n = if bytes_eq n clock then found else with_name found n

-- the next state is a function of input pins and of the state
unfoldable pub next_of : List (List ℕ) → States → List Attribute → Option Form
next_of inputs states attributes = expr_of attribute.NextState attributes >>= λ e. resolved (meaning inputs (Some states)) e

-- what is given is a function of input pins
abbrev pub reset_of : List (List ℕ) → Option Tree → Option (Option Form)
reset_of inputs None = Some None
reset_of inputs (Some e) = option_map (λ f. Some f) (resolved (meaning inputs None) e)

-- the state where clear and preset are both 1: as stated, where both are given
unfoldable pub both_of : Bool → List Attribute → Option Bool
both_of are_given attributes =
    if not are_given then Some false
    else if says attribute.ClearPresetVar1 (codes "L") attributes then Some false
    else if says attribute.ClearPresetVar1 (codes "H") attributes then Some true
    else None

unfoldable pub resets_of : List (List ℕ) → List Attribute → Option Resets
resets_of inputs attributes =
    reset_of inputs (expr_of attribute.Clear attributes) >>= λ clear.
    reset_of inputs (expr_of attribute.Preset attributes) >>= λ preset.
    both_of (is_some clear && is_some preset) attributes >>= λ both.
    Some (record { clear = clear; preset = preset; both = both })

-- whether a name of the state is its complement
abbrev pub name_phase : States → List ℕ → Option Bool
name_phase states n = if bytes_eq n states.state then Some false else if bytes_eq n states.complement then Some true else None

-- a name of the state or its inversion, and whether it is the complement
abbrev pub phase_of : States → Tree → Option Bool
phase_of states (NameTree n) = name_phase states n
phase_of states (NotTree (NameTree n)) = option_map not (name_phase states n)
phase_of states _ = None

-- an output pin whose function is a name of the state or its inversion
unfoldable pub flop_out : States → OutPin → Option FlopOut
flop_out states o = o.func >>= λ e. option_map (λ (b : Bool). record { name = o.name; inverted = b }) (phase_of states e)

-- every output pin is the state or its complement
abbrev pub flop_outs : States → List OutPin → Option (List FlopOut)
flop_outs states outs = each (flop_out states) outs

-- the flop on this clock whose other input pins are these
unfoldable pub flop_on : List ℕ → List (List ℕ) → States → List OutPin → List Attribute → Option Flop
flop_on clock pins states outs attributes =
    next_of pins states attributes >>= λ next.
    resets_of pins attributes >>= λ resets.
    flop_outs states outs >>= λ found.
    Some (record { clock = clock; next = next; clear = resets.clear; preset = resets.preset; both = resets.both; outs = found })

-- the flop that a group `ff` makes of a cell's pins
unfoldable pub flop_of : List (List ℕ) → List OutPin → Part → Option Flop
flop_of inputs outs ff =
    states_of ff.names >>= λ states.
    clock_of inputs ff.attributes >>= λ clock.
    flop_on clock (data_inputs clock inputs) states outs ff.attributes
