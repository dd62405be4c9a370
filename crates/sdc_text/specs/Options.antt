-- The options of commands by their words (SDC 2.1).
use Rattle.std.specs.Prelude.{ℕ, Bool, true, false, if◌then◌else◌, List, Option, Some, None, codes}
use Rattle.std.specs.Str.{bytes_eq}
use Rattle.sdcv_base.specs.declared.kinds.Edge.TheVariants as edge
use Rattle.sdc_text.specs.declared.options.PathCommand.{PathCommand}
use Rattle.sdc_text.specs.declared.options.PathCommand.TheVariants as path
use Rattle.sdc_text.specs.declared.options.PathOption.{PathOption}
use Rattle.sdc_text.specs.declared.options.PathOption.TheVariants as option
use Rattle.sdc_text.specs.declared.options.ClockCommand.{ClockCommand}
use Rattle.sdc_text.specs.declared.options.ClockCommand.TheVariants as command
use Rattle.sdc_text.specs.declared.options.ClockOption.{ClockOption}
use Rattle.sdc_text.specs.declared.options.ClockOption.TheVariants as clock
use Rattle.sdc_text.specs.declared.options.DelayOption.{DelayOption}
use Rattle.sdc_text.specs.declared.options.DelayOption.TheVariants as delay

-- the options of exceptions that are left out, and for which a command is set aside
unfoldable pub left_out_option : List ℕ → Option PathOption
left_out_option x =
    if bytes_eq x (codes "-rise") then Some option.LeftOut
    else if bytes_eq x (codes "-fall") then Some option.LeftOut
    else if bytes_eq x (codes "-reset_path") then Some option.LeftOut
    else if bytes_eq x (codes "-rise_through") then Some option.LeftOutList
    else if bytes_eq x (codes "-fall_through") then Some option.LeftOutList
    else if bytes_eq x (codes "-rise_to") then Some option.LeftOutList
    else if bytes_eq x (codes "-fall_to") then Some option.LeftOutList
    else None

-- the options of both exceptions, read or left out
unfoldable pub common_option : List ℕ → Option PathOption
common_option x =
    if bytes_eq x (codes "-from") then Some (option.From edge.Any)
    else if bytes_eq x (codes "-rise_from") then Some (option.From edge.Rise)
    else if bytes_eq x (codes "-fall_from") then Some (option.From edge.Fall)
    else if bytes_eq x (codes "-through") then Some option.Through
    else if bytes_eq x (codes "-to") then Some option.To
    else if bytes_eq x (codes "-setup") then Some option.Setup
    else if bytes_eq x (codes "-hold") then Some option.Hold
    else if bytes_eq x (codes "-comment") then Some option.Comment
    else left_out_option x

-- the options of set_multicycle_path: which clock counts the cycles, and those of both
unfoldable pub multicycle_option : List ℕ → Option PathOption
multicycle_option x =
    if bytes_eq x (codes "-start") then Some option.Reference
    else if bytes_eq x (codes "-end") then Some option.Reference
    else common_option x

-- the options of set_multicycle_path in a wide script: its number, and those of a narrow one
unfoldable pub wide_option : List ℕ → Option PathOption
wide_option x = if bytes_eq x (codes "-path_multiplier") then Some option.Multiplier else multicycle_option x

-- the options of an exception in a wide or a narrow script
unfoldable pub path_option : Bool → PathCommand → List ℕ → Option PathOption
path_option wide path.FalsePath x = common_option x
path_option true path.Multicycle x = wide_option x
path_option false path.Multicycle x = multicycle_option x

-- the options of create_clock
unfoldable pub created_option : List ℕ → Option ClockOption
created_option x =
    if bytes_eq x (codes "-name") then Some clock.Called
    else if bytes_eq x (codes "-period") then Some clock.Timing
    else if bytes_eq x (codes "-waveform") then Some clock.Timing
    else if bytes_eq x (codes "-comment") then Some clock.Timing
    else if bytes_eq x (codes "-add") then Some clock.Added
    else None

-- the options of create_generated_clock
unfoldable pub generated_option : List ℕ → Option ClockOption
generated_option x =
    if bytes_eq x (codes "-name") then Some clock.Called
    else if bytes_eq x (codes "-source") then Some clock.Master
    else if bytes_eq x (codes "-master_clock") then Some clock.Master
    else if bytes_eq x (codes "-divide_by") then Some clock.Timing
    else if bytes_eq x (codes "-multiply_by") then Some clock.Timing
    else if bytes_eq x (codes "-duty_cycle") then Some clock.Timing
    else if bytes_eq x (codes "-edges") then Some clock.Timing
    else if bytes_eq x (codes "-edge_shift") then Some clock.Timing
    else if bytes_eq x (codes "-comment") then Some clock.Timing
    else if bytes_eq x (codes "-invert") then Some clock.Added
    else if bytes_eq x (codes "-add") then Some clock.Added
    else if bytes_eq x (codes "-combinational") then Some clock.Added
    else None

-- the options of a command that makes a clock
unfoldable pub clock_option : ClockCommand → List ℕ → Option ClockOption
clock_option command.Create x = created_option x
clock_option command.Generate x = generated_option x

-- the options of set_input_delay and set_output_delay: the clocks, and those that change no list
unfoldable pub delay_option : List ℕ → Option DelayOption
delay_option x =
    if bytes_eq x (codes "-clock") then Some delay.Clocks
    else if bytes_eq x (codes "-clock_fall") then Some delay.Alone
    else if bytes_eq x (codes "-rise") then Some delay.Alone
    else if bytes_eq x (codes "-fall") then Some delay.Alone
    else if bytes_eq x (codes "-max") then Some delay.Alone
    else if bytes_eq x (codes "-min") then Some delay.Alone
    else if bytes_eq x (codes "-add_delay") then Some delay.Alone
    else if bytes_eq x (codes "-network_latency_included") then Some delay.Alone
    else if bytes_eq x (codes "-source_latency_included") then Some delay.Alone
    else None
