-- What stands in the place of each command of a script.
use Rattle.std.specs.Prelude.{ℕ, ◌+◌, Bool, if◌then◌else◌, List, [], ◌∷◌, length, count_by, slice_get, codes, Option, None, Some}
use Rattle.std.specs.List.{flat_map}
use Rattle.std.specs.Fmt.{decimal}
use Rattle.script_types.specs.declared.scripts.Held.{Held}
use Rattle.script_types.specs.declared.scripts.What.{What}
use Rattle.script_types.specs.declared.scripts.What.TheVariants.{Hold}
use Rattle.script_types.specs.declared.scripts.Command.{Command}
use Rattle.script_types.specs.declared.scripts.Script.{Script}
use Rattle.selected_types.specs.declared.selections.PairLine.{PairLine}
use Rattle.selected_types.specs.declared.selections.Selected.{Selected}
use Rattle.verdict_types.specs.declared.outcomes.Verdict.{Verdict}
use Rattle.report_text.specs.Words.{◌⁀◌, ends_text, found_text}
use Rattle.exception_expand.specs.Asking.{Asked, asked}
use Rattle.script_notices.specs.Companions.{next_place}
use Rattle.mend_groups.specs.declared.rows.Row.{Row}
use Rattle.mend_groups.specs.declared.parts.Part.{Part}
use Rattle.mend_lines.specs.declared.fates.HoldFate.{HoldFate}
use Rattle.mend_lines.specs.declared.fates.HoldFate.TheVariants.{Stays, Follows, LeftOut}
use Rattle.mend_lines.specs.Lines.{joined_by, lines_of, lines_after}
use Rattle.mend_lines.specs.Holds.{is_whole, hold_fate}

abbrev pub newline : List ℕ
newline = 10 ∷ []

-- the pairs of an exception that are kept
abbrev pub kept_count : List Row → ℕ
kept_count rows = count_by (λ (r : Row). r.kept) rows

-- what is said of a pair that is kept and not written
abbrev pub unwritten_text : Bool → List ℕ
unwritten_text kept = if kept then codes ", not written" else []

-- the word of the early side
abbrev pub side_text : Bool → List ℕ
side_text early = if early then codes "hold " else []

-- a side of a pair that is not written again, with what is found out about it in a run of this depth
abbrev pub comment_by : ℕ → Row → Option PairLine → Option Verdict → List ℕ
comment_by depth r (Some p) (Some v) =
    codes "# pair " ⁀ decimal (r.place + 1) ⁀ codes " " ⁀ side_text r.early ⁀ ends_text p ⁀ codes " " ⁀ found_text depth v ⁀ unwritten_text r.kept ⁀ newline
comment_by depth r _ _ = []

-- the one at a place, if there is one
abbrev pub comment_found : ℕ → Selected → List Verdict → Row → List ℕ
comment_found depth s verdicts r = comment_by depth r (slice_get s.pairs r.place) (slice_get verdicts r.place)

-- a pair that is written again has no comment
abbrev pub comment_of : ℕ → Selected → List Verdict → Row → List ℕ
comment_of depth s verdicts r = if r.written then [] else comment_found depth s verdicts r

-- how many pairs of an exception are kept
abbrev pub counts_text : ℕ → List Row → List ℕ
counts_text number rows =
    codes "# sdcv: command " ⁀ decimal number ⁀ codes " kept " ⁀ decimal (kept_count rows) ⁀ codes " of " ⁀ decimal (length rows) ⁀ newline

-- in the place of an exception that is not whole: how many of its pairs are kept, those that are not written, and its new commands. Where
-- there are none the text ends with a newline, so that what follows on the line is no comment
abbrev pub claim_body : ℕ → Selected → List Verdict → ℕ → Asked → Part → List ℕ
claim_body depth s verdicts number by part =
    counts_text number part.rows ⁀ flat_map (comment_of depth s verdicts) part.rows ⁀ joined_by newline (lines_of s.pairs by part.groups)

-- an exception that is whole stays
abbrev pub body_by_part : ℕ → Selected → List Verdict → ℕ → Asked → Part → Option (List ℕ)
body_by_part depth s verdicts number by part = if is_whole part then None else Some (claim_body depth s verdicts number by part)

-- of the exception at a place
abbrev pub body_by : ℕ → Selected → List Verdict → ℕ → Asked → Option Part → Option (List ℕ)
body_by depth s verdicts number by None = None
body_by depth s verdicts number by (Some part) = body_by_part depth s verdicts number by part

abbrev pub body_at : ℕ → Selected → List Verdict → List Part → ℕ → Asked → Option (List ℕ)
body_at depth s verdicts parts place by = body_by depth s verdicts (place + 1) by (slice_get parts place)

-- the words before the rest of a hold command's lines
abbrev pub hold_head : List ℕ → List ℕ
hold_head number = codes "set_multicycle_path " ⁀ number ⁀ codes " -hold"

abbrev pub number_text : Held → List ℕ
number_text h = elim h.number [ None ↦ [] | Some number ↦ number ]

-- the commands of a hold command by the groups of its companion, which has the same lists
abbrev pub hold_lines : Selected → List Part → Held → ℕ → List (List ℕ)
hold_lines s parts h place = elim (slice_get parts place) [
  | None ↦ []
  | Some p ↦ lines_after (hold_head (number_text h)) s.pairs h.through p.groups
]

abbrev pub followed_text : ℕ → List ℕ
followed_text number = codes "# sdcv: command " ⁀ decimal number ⁀ codes " with the multicycle path of its lists" ⁀ newline

abbrev pub left_out_text : ℕ → List ℕ
left_out_text number = codes "# sdcv: command " ⁀ decimal number ⁀ codes " left out, no multicycle path has its lists" ⁀ newline

abbrev pub followed_body : Selected → List Part → ℕ → Held → ℕ → List ℕ
followed_body s parts number h place = followed_text number ⁀ joined_by newline (hold_lines s parts h place)

-- in the place of a hold command
abbrev pub hold_body : Selected → List Part → ℕ → Held → HoldFate → Option (List ℕ)
hold_body s parts number h Stays = None
hold_body s parts number h (Follows place) = Some (followed_body s parts number h place)
hold_body s parts number h LeftOut = Some (left_out_text number)

-- in the place of a command that claims nothing
abbrev pub body_unasked : Script → Selected → List Part → ℕ → What → Option (List ℕ)
body_unasked script s parts place (Hold h) = hold_body s parts (place + 1) h (hold_fate script parts h)
body_unasked script s parts place _ = None

abbrev pub body_asked : ℕ → Script → Selected → List Verdict → List Part → ℕ → What → Option Asked → Option (List ℕ)
body_asked depth script s verdicts parts place what None = body_unasked script s parts place what
body_asked depth script s verdicts parts place what (Some by) = body_at depth s verdicts parts place by

-- in the place of a command, with hold sides or without; the next exception has this place among all, from 0, and its number is one more
abbrev pub body_of : ℕ → Script → Bool → Selected → List Verdict → List Part → ℕ → What → Option (List ℕ)
body_of depth script hold s verdicts parts place what = body_asked depth script s verdicts parts place what (asked hold what)

-- in the places of the commands, of which the next exception has this place
unfoldable pub bodies_from : ℕ → Script → Bool → Selected → List Verdict → List Part → ℕ → List Command → List (Option (List ℕ))
bodies_from depth script hold s verdicts parts place [] = []
bodies_from depth script hold s verdicts parts place (c ∷ commands) =
    body_of depth script hold s verdicts parts place c.what ∷ bodies_from depth script hold s verdicts parts (next_place place c.what) commands

abbrev pub bodies_of : ℕ → Script → Bool → Selected → List Verdict → List Part → List (Option (List ℕ))
bodies_of depth script hold s verdicts parts = bodies_from depth script hold s verdicts parts 0 script.commands
