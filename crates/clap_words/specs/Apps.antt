-- The command that `clap` is given.
use Rattle.std.specs.Prelude.{◌≡◌, List, fold, Some, true, false, codes}
use Rattle.clap.specs.declared.builder.Command.{Command}
use Rattle.clap.specs.declared.builder.Command.TheViews.{out-Command as fields_of}
use Rattle.clap.specs.declared.builder.ArgAction.TheVariants.{Set, SetTrue}
use Rattle.clap.specs.Simple.{new_shape}
use Rattle.clap.specs.Words.{App, Rule, app_of, new_app, new_rule, with_rule, with_subcommand}
use Rattle.clap_words.specs.declared.commands.Form.{Form}
use Rattle.clap_words.specs.declared.commands.Form.TheVariants.{Flag, Valued, Needed}
use Rattle.clap_words.specs.declared.commands.OptionRow.{OptionRow as TheOptionRow}
use Rattle.clap_words.specs.declared.commands.PositionRow.{PositionRow as ThePositionRow}
use Rattle.clap_words.specs.declared.commands.CommandRow.{CommandRow as TheCommandRow}
use Rattle.clap_words.specs.Commands.{Text, CommandRow, command_rows}

-- a position is required and has one value
abbrev pub position_rule : Text → Rule
position_rule id = record (new_rule id) { required = true; action = Some Set }

-- an option is long; it is a flag, or has one value
abbrev pub option_rule : Text → Form → Rule
option_rule id Flag = record (new_rule id) { long = Some id; action = Some SetTrue }
option_rule id Valued = record (new_rule id) { long = Some id; action = Some Set }
option_rule id Needed = record (new_rule id) { long = Some id; required = true; action = Some Set }

abbrev pub command_app : CommandRow → App
command_app row =
    fold (λ a option. with_rule a (option_rule option.id option.form))
    (fold (λ a id. with_rule a (position_rule id)) (new_app row.name) row.positions) row.options

-- the words leave out the program's name, and ask for no help by a word of their own
abbrev pub top_app : App
top_app = record (new_app (codes "sdcv")) {
  top = record (new_shape (codes "sdcv")) { no_binary_name = true; disable_help_flag = true; disable_help_subcommand = true };
}

-- the commands of the table are subcommands of one command
abbrev pub sdcv_app : App
sdcv_app = fold (λ a row. with_subcommand a (command_app row).top) top_app command_rows

-- ---- what the functions that build it say

abbrev pub Makes : Command → (App → App) → Command → Type 0
Makes old f new = (app_of new ≡ f (app_of old)) × ((fields_of new).has_globals ≡ (fields_of old).has_globals)

abbrev pub IsCommand : App → Command → Type 0
IsCommand a c = (app_of c ≡ a) × ((fields_of c).has_globals ≡ false)

abbrev pub with_positions : List ThePositionRow → App → App
with_positions positions a = fold (λ b row. with_rule b (position_rule row.id.now)) a positions

abbrev pub with_options : List TheOptionRow → App → App
with_options options a = fold (λ b row. with_rule b (option_rule row.id.now row.form)) a options

abbrev pub app_from : TheCommandRow → App
app_from row = with_options row.options.now (with_positions row.positions.now (new_app row.name.now))

abbrev pub with_commands : List TheCommandRow → App → App
with_commands rows a = fold (λ b row. with_subcommand b (app_from row).top) a rows
