-- What becomes of the pairs of each exception.
use Rattle.std.specs.Prelude.{ℕ, ◌+◌, Bool, Option, Some, None, if◌then◌else◌, List, [], ◌∷◌}
use Rattle.script_types.specs.declared.scripts.Command.{Command}
use Rattle.script_types.specs.declared.scripts.Script.{Script}
use Rattle.selected_types.specs.declared.selections.Listing.{Listing}
use Rattle.selected_types.specs.declared.selections.Listing.TheVariants.{Claiming as ListsClaims, Hold as ListsHold, Aside as ListsAside, HoldSide}
use Rattle.selected_types.specs.declared.selections.CommandLine.{CommandLine}
use Rattle.selected_types.specs.declared.selections.Selected.{Selected}
use Rattle.verdict_types.specs.declared.outcomes.Verdict.{Verdict}
use Rattle.exception_expand.specs.Asking.{Asked, asked}
use Rattle.exception_expand.specs.Selections.{is_exception}
use Rattle.mend_groups.specs.declared.ports.Ports.{Ports}
use Rattle.mend_groups.specs.declared.rows.Row.{Row}
use Rattle.mend_groups.specs.declared.parts.Part.{Part}
use Rattle.mend_groups.specs.Rows.{can_spell, rows_from, rows_by, are_kept}
use Rattle.mend_groups.specs.Groups.{groups_of}

-- how many claims an exception makes, as it is listed
abbrev pub count_of : Listing → ℕ
count_of (ListsClaims kind edge pairs) = pairs
count_of ListsHold = 0
count_of (ListsAside option) = 0
count_of (HoldSide edge pairs) = pairs

-- the sides of the pairs of an exception that claims something; no other one has pairs
abbrev pub rows_of : Ports → Selected → List Verdict → ℕ → ℕ → Option Asked → List Row
rows_of ports s verdicts place count None = []
rows_of ports s verdicts place count (Some by) = rows_by by.sides (rows_from ports (can_spell by.exception.through) s verdicts place count)

-- where some claim of an exception is not kept, the others are written in groups
abbrev pub part_by : List Row → Part
part_by rows = record { rows = rows; groups = if are_kept rows then [] else groups_of rows }

abbrev pub part_of : Ports → Selected → List Verdict → ℕ → ℕ → Option Asked → Part
part_of ports s verdicts place count by = part_by (rows_of ports s verdicts place count by)

-- one part for each exception, in order, with hold sides or without; its claims are the next ones of the selection, as many as it is
-- listed with
unfoldable pub parts_from : Ports → Bool → Selected → List Verdict → ℕ → List CommandLine → List Command → List Part
parts_from ports hold s verdicts place lines [] = []
parts_from ports hold s verdicts place [] (c ∷ commands) = []
parts_from ports hold s verdicts place (line ∷ lines) (c ∷ commands) =
    if is_exception c.what then part_of ports s verdicts place (count_of line.listing) (asked hold c.what)
    ∷ parts_from ports hold s verdicts (place + count_of line.listing) lines commands
    else parts_from ports hold s verdicts place (line ∷ lines) commands

-- in a design of so many port bits
abbrev pub parts_of : Ports → Script → Bool → Selected → List Verdict → List Part
parts_of ports script hold s verdicts = parts_from ports hold s verdicts 0 s.commands script.commands
