-- What a report tells by groups, and what of it stops a build.
use Rattle.std.specs.Prelude.{ℕ, ◌||◌, Bool, true, false, not, nat_eq, nat_lt, List, [], ◌∷◌, ◌++◌, map, filter, flat_map, codes, if◌then◌else◌}
use Rattle.std.specs.List.{starts_with}
use Rattle.std.specs.Fmt.{decimal}
use Rattle.std.specs.Str.{bytes_eq}
use Rattle.sdcv_base.specs.Shown.{shown}
use Rattle.witness_replay.specs.StimulusTexts.{line_of}
use Rattle.report_rows.specs.declared.reports.Word.{Word}
use Rattle.report_rows.specs.declared.reports.Word.TheVariants.{Justified, Refuted, Undecided}
use Rattle.report_rows.specs.declared.reports.Told.{Told}
use Rattle.report_rows.specs.declared.reports.Told.TheVariants.{Top, Clock, Cut, Skipped, Unjudged, HoldSides}
use Rattle.report_rows.specs.declared.reports.Said.{Said}
use Rattle.report_rows.specs.declared.reports.Said.TheVariants.{Does, Warns}
use Rattle.report_rows.specs.declared.reports.ScriptRow.{ScriptRow}
use Rattle.report_rows.specs.declared.reports.Report.{Report}
use Rattle.accepted_lists.specs.Accepted.{accepts_note, open_of}
use Rattle.accepted_lists.specs.declared.lists.AcceptedList.{AcceptedList}
use Rattle.report_groups.specs.Groups.{◌⁀◌, groups_of, group_text}
use Rattle.report_groups.specs.declared.findings.Finding.{Finding}
use Rattle.report_groups.specs.declared.findings.Finding.TheVariants.{NoException, Note, Pairs}

-- an exception that is set aside
abbrev pub is_aside : List ℕ → Bool
is_aside what = starts_with nat_eq what (codes "aside ")

-- which exception, and at which line of the script
abbrev pub place_text : ScriptRow → List ℕ
place_text row = codes "command " ⁀ decimal row.command ⁀ codes " line " ⁀ decimal row.line ⁀ codes " "

-- an exception claims something of a pair, or is for hold checks, which are not judged
abbrev pub is_quiet : List ℕ → ℕ → Bool
is_quiet what pairs = bytes_eq what (codes "hold") || nat_lt 0 pairs

-- what is to be told of an exception apart from its pairs: that it is set aside or selects nothing, or a warning
abbrev pub said_texts : Said → List (List ℕ)
said_texts (Warns text) = (codes "warning " ⁀ shown text) ∷ []
said_texts (Does what pairs) =
    if is_aside what then shown what ∷ []
    else (if is_quiet what pairs then [] else (shown what ⁀ codes " selects nothing") ∷ [])

abbrev pub notes_of : ScriptRow → List Finding
notes_of row = map (λ text. Note (place_text row ⁀ text)) (said_texts row.said)

-- the notes on the exceptions in the order of the script, and that there is none
abbrev pub all_notes : List ScriptRow → List Finding
all_notes [] = NoException ∷ []
all_notes (row ∷ rows) = flat_map notes_of (row ∷ rows)

-- a command that is not judged, by its line in the script and its name
abbrev pub unjudged_text : ℕ → List ℕ → List ℕ
unjudged_text line name = codes "line " ⁀ decimal line ⁀ codes " unjudged " ⁀ shown name

-- the note on it; what is told of the netlist, what is passed over and what is not claimed have none
abbrev pub told_notes : Told → List Finding
told_notes (Top name) = []
told_notes (Clock name) = []
told_notes (Cut cell count may_lead) = []
told_notes (Skipped name count) = []
told_notes (Unjudged line name) = Note (unjudged_text line name) ∷ []
told_notes (HoldSides count) = []

-- what is told of a report: the notes on commands that are not judged, those on exceptions, and then the groups
abbrev pub findings_of : Report → List Finding
findings_of report = flat_map told_notes report.told ++ (all_notes report.script ++ map Pairs (groups_of report.pairs))

abbrev pub finding_text : Finding → List ℕ
finding_text NoException = codes "no exception"
finding_text (Note text) = text
finding_text (Pairs group) = group_text group

abbrev pub findings_text : List Finding → List ℕ
findings_text fs = flat_map (λ f. line_of (finding_text f)) fs

abbrev pub is_justified : Word → Bool
is_justified Justified = true
is_justified Refuted = false
is_justified Undecided = false

-- a finding lets a build go on: the pairs of a group that is justified
abbrev pub passes : Finding → Bool
passes NoException = false
passes (Note text) = false
passes (Pairs group) = is_justified group.row.verdict

-- those that stop a build
abbrev pub stopping_among : List Finding → List Finding
stopping_among fs = filter (λ f. not (passes f)) fs

abbrev pub stopping : Report → List Finding
stopping report = stopping_among (findings_of report)

-- a note that is accepted; that there is no exception never is
abbrev pub is_accepted : AcceptedList → Finding → Bool
is_accepted list NoException = false
is_accepted list (Note text) = accepts_note list text
is_accepted list (Pairs group) = false

-- what is left without the accepted notes
abbrev pub unaccepted : AcceptedList → List Finding → List Finding
unaccepted list fs = filter (λ f. not (is_accepted list f)) fs

-- those that stop a build of the report without accepted pairs, but for accepted notes
abbrev pub stopping_with : AcceptedList → Report → List Finding
stopping_with list report = stopping_among (unaccepted list (findings_of (open_of list report)))
