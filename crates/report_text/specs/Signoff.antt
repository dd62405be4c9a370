-- What a run that is judged as for a sign-off leaves open, whatever its verdicts are.
use Rattle.std.specs.Prelude.{◌==◌, ◌&&◌, ◌||◌, Bool, true, false, not, List, length}
use Rattle.std.specs.List.{list_any}
use Rattle.run_options.specs.declared.options.RunOptions.{RunOptions}
use Rattle.selected_types.specs.declared.notices.Notices.{Notices}
use Rattle.selected_types.specs.declared.selections.Listing.{Listing}
use Rattle.selected_types.specs.declared.selections.Listing.TheVariants.{Claiming, Hold, Aside, HoldSide}
use Rattle.selected_types.specs.declared.selections.CommandLine.{CommandLine}
use Rattle.selected_types.specs.declared.selections.Selected.{Selected}

-- there is any
abbrev pub has_any : {A : Type 0} → List A → Bool
has_any xs = not (length xs == 0)

-- an exception is set aside, or claims nothing of any pair
abbrev pub is_idle : Listing → Bool
is_idle (Claiming kind edge pairs) = pairs == 0
is_idle Hold = false
is_idle (Aside option) = true
is_idle (HoldSide edge pairs) = pairs == 0

-- it is such a one, or has a warning
abbrev pub is_open : CommandLine → Bool
is_open c = is_idle c.listing || has_any c.warnings

abbrev pub any_open : List CommandLine → Bool
any_open commands = list_any is_open commands

-- in a strict run a command is told that is not judged, or an exception is open
abbrev pub leaves_open : RunOptions → Notices → Selected → Bool
leaves_open o n selected = o.strict && (has_any n.unjudged || any_open selected.commands)
