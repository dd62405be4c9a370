-- The lines that a run prints of a mended script.
use Rattle.std.specs.Prelude.{ℕ, ◌+◌, ◌-◌, not, ◌&&◌, if◌then◌else◌, List, [], ◌∷◌, ◌++◌, length, map, count_by, slice_get, codes}
use Rattle.std.specs.Prelude.{Option, None, Some}
use Rattle.std.specs.List.{flat_map}
use Rattle.std.specs.Fmt.{decimal}
use Rattle.script_types.specs.declared.scripts.What.{What}
use Rattle.script_types.specs.declared.scripts.What.TheVariants.{Hold}
use Rattle.script_types.specs.declared.scripts.Command.{Command}
use Rattle.selected_types.specs.declared.selections.CommandLine.{CommandLine}
use Rattle.selected_types.specs.declared.selections.PairLine.{PairLine}
use Rattle.net_model.specs.declared.claims.Claim.{Claim}
use Rattle.verdict_types.specs.declared.outcomes.Verdict.{Verdict}
use Rattle.run_options.specs.declared.options.RunOptions.{RunOptions}
use Rattle.selected_types.specs.declared.notices.Notices.{Notices}
use Rattle.report_text.specs.Notices.{notice_texts}
use Rattle.report_text.specs.Words.{◌⁀◌, mode_text, asked_text, claim_text, what_text, ends_text, found_text, warning_line}
use Rattle.witness_replay.specs.StimulusTexts.{line_of}
use Rattle.exception_expand.specs.Asking.{Asked, asked}
use Rattle.exception_expand.specs.Selections.{is_exception}
use Rattle.mend_groups.specs.declared.rows.Row.{Row}
use Rattle.mend_groups.specs.declared.parts.Part.{Part}
use Rattle.mend_lines.specs.Lines.{line_count}
use Rattle.mend_lines.specs.Holds.{is_whole, hold_fate}
use Rattle.mend_lines.specs.Bodies.{kept_count, newline}
use Rattle.mend_lines.specs.declared.fates.HoldFate.{HoldFate}
use Rattle.mend_lines.specs.declared.fates.HoldFate.TheVariants.{Stays, Follows, LeftOut}
use Rattle.mended_text.specs.declared.faults.MendFault.{MendFault}
use Rattle.mended_text.specs.declared.faults.MendFault.TheVariants.{Unread, Memory}
use Rattle.mended_text.specs.Scenes.{Findings}

-- the options of the run
abbrev pub header_text : RunOptions → List ℕ
header_text o =
    codes "sdcv 1 mend mode " ⁀ mode_text o.hazard ⁀ codes " reset " ⁀ decimal o.reset_len ⁀ codes " depth " ⁀ decimal o.depth ⁀ codes " budget "
    ⁀ decimal o.budget ⁀ codes " inv " ⁀ decimal o.inv_depth ⁀ asked_text o

-- the pairs that are written again
abbrev pub written_count : List Row → ℕ
written_count rows = count_by (λ (r : Row). r.written) rows

-- what becomes of an exception that claims something
abbrev pub part_text : Part → List ℕ
part_text p =
    codes " pairs " ⁀ decimal (length p.rows)
    ⁀ (if is_whole p then codes " whole"
    else codes " kept " ⁀ decimal (kept_count p.rows) ⁀ codes " written " ⁀ decimal (written_count p.rows) ⁀ codes " lines " ⁀ decimal (line_count p.groups))

abbrev pub claiming_text : Option Part → List ℕ
claiming_text None = []
claiming_text (Some p) = part_text p

-- how many commands the exception at a place becomes
abbrev pub lines_at : List Part → ℕ → ℕ
lines_at parts place = elim (slice_get parts place) [ None ↦ 0 | Some p ↦ line_count p.groups ]

-- of a hold command, with how many commands it becomes
abbrev pub fate_text : List Part → HoldFate → List ℕ
fate_text parts Stays = codes " stays"
fate_text parts LeftOut = codes " left"
fate_text parts (Follows place) = codes " lines " ⁀ decimal (lines_at parts place)

-- of a command that claims nothing
abbrev pub unasked_text : Findings → List Part → What → List ℕ
unasked_text f parts (Hold h) = fate_text parts (hold_fate f.script parts h)
unasked_text f parts _ = []

abbrev pub asked_outcome : Findings → List Part → ℕ → What → Option Asked → List ℕ
asked_outcome f parts place what None = unasked_text f parts what
asked_outcome f parts place what (Some by) = claiming_text (slice_get parts place)

abbrev pub outcome_text : Findings → List Part → ℕ → What → List ℕ
outcome_text f parts place what = asked_outcome f parts place what (asked f.hold what)

-- the exception at a place among the exceptions, from 0, as it is listed
abbrev pub command_text : Findings → List Part → ℕ → CommandLine → What → List ℕ
command_text f parts place line what =
    codes "command " ⁀ decimal (place + 1) ⁀ codes " line " ⁀ decimal line.line ⁀ codes " " ⁀ what_text line.listing ⁀ outcome_text f parts place what

-- a pair that is not written again, whether it is kept or not
abbrev pub left_text : ℕ → Row → PairLine → Claim → Verdict → List ℕ
left_text depth r p claim v =
    (if r.kept then codes "unwritten" else codes "left") ⁀ codes " " ⁀ decimal (r.place + 1) ⁀ codes " command " ⁀ decimal p.command ⁀ codes " "
    ⁀ claim_text claim ⁀ codes " " ⁀ ends_text p ⁀ codes " " ⁀ found_text depth v

abbrev pub left_by : ℕ → Row → Option PairLine → Option Claim → Option Verdict → List (List ℕ)
left_by depth r (Some p) (Some claim) (Some v) = left_text depth r p claim v ∷ []
left_by depth r _ _ _ = []

abbrev pub left_of : Findings → Row → List (List ℕ)
left_of f r =
    if r.written then []
    else left_by f.depth r (slice_get f.selected.pairs r.place) (slice_get f.selected.claims r.place) (slice_get f.verdicts r.place)

-- the pairs of an exception that is not whole
abbrev pub parted_rows : Part → List Row
parted_rows p = if is_whole p then [] else p.rows

-- the pairs of the exception at a place, if it is not whole
abbrev pub left_rows : List Part → ℕ → List Row
left_rows parts place = elim (slice_get parts place) [ None ↦ [] | Some p ↦ parted_rows p ]

-- the lines of an exception: what becomes of it, its warnings, and its pairs that are not written again
abbrev pub exception_texts : Findings → List Part → ℕ → CommandLine → What → List (List ℕ)
exception_texts f parts place line what =
    command_text f parts place line what ∷ (map (warning_line (place + 1)) line.warnings ++ flat_map (left_of f) (left_rows parts place))

-- the lines of all exceptions, of which the first of these commands has this place
unfoldable pub texts_from : Findings → List Part → ℕ → List CommandLine → List Command → List (List ℕ)
texts_from f parts place lines [] = []
texts_from f parts place [] (c ∷ commands) = []
texts_from f parts place (line ∷ lines) (c ∷ commands) =
    if is_exception c.what then exception_texts f parts place line c.what ++ texts_from f parts (place + 1) lines commands
    else texts_from f parts place (line ∷ lines) commands

-- the pairs of all exceptions
abbrev pub all_rows : List Part → List Row
all_rows parts = flat_map (λ (p : Part). p.rows) parts

-- the pairs that are kept and not written, of exceptions that are not whole
abbrev pub unwritten_count : List Part → ℕ
unwritten_count parts = count_by (λ (r : Row). r.kept && not r.written) (flat_map parted_rows parts)

abbrev pub total_text : List Part → List ℕ
total_text parts =
    codes "total " ⁀ decimal (length (all_rows parts)) ⁀ codes " kept " ⁀ decimal (kept_count (all_rows parts)) ⁀ codes " left "
    ⁀ decimal (length (all_rows parts) - kept_count (all_rows parts)) ⁀ codes " unwritten " ⁀ decimal (unwritten_count parts)

-- the options of the run, what is told of the script beside its exceptions, these, and how many pairs are kept
abbrev pub mended_texts : RunOptions → Notices → Findings → List Part → List (List ℕ)
mended_texts o n f parts = header_text o ∷ (notice_texts n ++ (texts_from f parts 0 f.selected.commands f.script.commands ++ total_text parts ∷ []))

abbrev pub mended_lines : RunOptions → Notices → Findings → List Part → List (List ℕ)
mended_lines o n f parts = map line_of (mended_texts o n f parts)

-- why a script is not mended
abbrev pub mend_line : MendFault → Option (List ℕ)
mend_line Unread = Some (codes "refused mend 1 Unread" ⁀ newline)
mend_line Memory = None
