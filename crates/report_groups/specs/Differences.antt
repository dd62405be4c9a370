-- How a report differs from an older one.
use Rattle.std.specs.Prelude.{ℕ, Bool, true, false, ◌==◌, List, [], ◌∷◌, ◌++◌, map, flat_map, codes, Option, None, Some, if◌then◌else◌}
use Rattle.std.specs.Fmt.{decimal}
use Rattle.std.specs.Str.{bytes_eq}
use Rattle.sdcv_base.specs.Shown.{shown}
use Rattle.texts.specs.Names.{is_among}
use Rattle.witness_replay.specs.StimulusTexts.{line_of}
use Rattle.report_rows.specs.declared.heads.Head.{Head}
use Rattle.report_rows.specs.declared.reports.Word.{Word}
use Rattle.report_rows.specs.declared.reports.Word.TheVariants.{Justified, Refuted, Undecided}
use Rattle.report_rows.specs.declared.reports.Told.{Told}
use Rattle.report_rows.specs.declared.reports.Told.TheVariants.{Top, Clock, Cut, Skipped, Unjudged, HoldSides}
use Rattle.report_rows.specs.declared.reports.ScriptRow.{ScriptRow}
use Rattle.report_rows.specs.declared.reports.PairRow.{PairRow}
use Rattle.report_rows.specs.declared.reports.Report.{Report}
use Rattle.report_groups.specs.Groups.{◌⁀◌, verdict_text, ends_text, groups_of}
use Rattle.report_groups.specs.Findings.{said_texts}
use Rattle.report_groups.specs.Marks.{ranked, mark, marks, left_of}
use Rattle.report_groups.specs.declared.groups.Group.{Group}

-- a row that is told under a word with this as its kind; its command and its number say nothing
abbrev pub told_with : List ℕ → List ℕ → PairRow → PairRow
told_with word kind r = record r { number = 0; command = 0; kind = kind; why = word }

abbrev pub told_as : List ℕ → PairRow → PairRow
told_as word r = told_with word (shown r.kind) r

-- a pair with this verdict has the pair's mark
abbrev pub had : List (List ℕ) → PairRow → Word → Bool
had olds r verdict = is_among (mark true (record r { verdict = verdict })) olds

-- the verdict that a pair had, by the marks of the older pairs
abbrev pub was : List (List ℕ) → PairRow → Option Word
was olds r =
    if had olds r Justified then Some Justified else (if had olds r Refuted then Some Refuted else (if had olds r Undecided then Some Undecided else None))

-- a pair that has another verdict now, or is new
abbrev pub told_new : PairRow → Option Word → PairRow
told_new r None = told_as (codes "new") r
told_new r (Some verdict) = told_with (codes "now") (shown r.kind ⁀ codes " was " ⁀ verdict_text verdict) r

-- the pairs that are left of the new ones and of the old ones: each is one that is now another, that is new or that is gone
abbrev pub changes_among : List PairRow → List PairRow → List PairRow
changes_among news olds =
    map (λ r. told_new r (was (marks true (ranked false olds)) r)) (ranked false news) ++ map (told_as (codes "gone")) (left_of false olds news)

-- the pairs that are not as they were: equal ones of one verdict cancel each other, the rest is matched in its order
abbrev pub changes_of : List PairRow → List PairRow → List PairRow
changes_of old new = changes_among (left_of true new old) (left_of true old new)

-- the line of equal changes
abbrev pub change_text : Group → List ℕ
change_text g =
    shown g.row.why ⁀ codes " " ⁀ verdict_text g.row.verdict ⁀ codes " " ⁀ ends_text g.row ⁀ codes " " ⁀ decimal g.pairs ⁀ codes " " ⁀ shown g.row.kind

abbrev pub change_lines : List PairRow → List PairRow → List (List ℕ)
change_lines old new = map change_text (groups_of (changes_of old new))

-- a note without its place, as a row whose kind it is
abbrev pub note_row : List ℕ → PairRow
note_row words = record { number = 0; command = 0; kind = words; start = []; end = []; verdict = Undecided; why = [] }

abbrev pub said_rows : ScriptRow → List PairRow
said_rows row = map note_row (said_texts row.said)

abbrev pub unjudged_row : List ℕ → PairRow
unjudged_row name = note_row (codes "unjudged " ⁀ shown name)

abbrev pub told_rows : Told → List PairRow
told_rows (Top name) = []
told_rows (Clock name) = []
told_rows (Cut cell count may_lead) = []
told_rows (Skipped name count) = []
told_rows (Unjudged line name) = unjudged_row name ∷ []
told_rows (HoldSides count) = []

abbrev pub none_row : PairRow
none_row = note_row (codes "no exception")

abbrev pub script_rows : List ScriptRow → List PairRow
script_rows [] = none_row ∷ []
script_rows (row ∷ rows) = flat_map said_rows (row ∷ rows)

-- the notes of a report without their places
abbrev pub note_rows : Report → List PairRow
note_rows report = flat_map told_rows report.told ++ script_rows report.script

abbrev pub note_line : List ℕ → PairRow → List ℕ
note_line word r = word ⁀ codes " note " ⁀ shown r.kind

-- the lines of the notes that none of the others cancels
abbrev pub note_lines : List ℕ → List PairRow → List PairRow → List (List ℕ)
note_lines word rows others = map (note_line word) (left_of false rows others)

-- the notes that are new, and those that are gone
abbrev pub notes_lines : Report → Report → List (List ℕ)
notes_lines old new = note_lines (codes "new") (note_rows new) (note_rows old) ++ note_lines (codes "gone") (note_rows old) (note_rows new)

abbrev pub number_text : List ℕ → Option ℕ → List ℕ
number_text word None = []
number_text word (Some number) = codes " " ⁀ word ⁀ codes " " ⁀ decimal number

abbrev pub flag_text : List ℕ → Bool → List ℕ
flag_text word stands = if stands then word else []

abbrev pub mode_text : Bool → List ℕ
mode_text false = codes "plain"
mode_text true = codes "hazard"

abbrev pub lag_text : ℕ → List ℕ
lag_text lag = if lag == 0 then [] else codes " lag " ⁀ decimal lag

-- what is asked for beside the claims
abbrev pub asked_text : Head → List ℕ
asked_text h =
    flag_text (codes " hold") h.hold ⁀ number_text (codes "assist") h.asked.assist ⁀ number_text (codes "free") h.asked.free
    ⁀ number_text (codes "assumed") h.asked.assumed ⁀ flag_text (codes " strict") h.asked.strict

-- the first line of a report, without its depth, its budget and the steps of its invariants
abbrev pub head_text : Head → List ℕ
head_text h = codes "mode " ⁀ mode_text h.hazard ⁀ codes " reset " ⁀ decimal h.reset ⁀ lag_text h.lag ⁀ asked_text h

-- both first lines, where they differ
abbrev pub head_lines : Head → Head → List (List ℕ)
head_lines old new =
    if bytes_eq (head_text old) (head_text new) then [] else (codes "was " ⁀ head_text old) ∷ (codes "is " ⁀ head_text new) ∷ []

-- how a report differs from an older one: its first line, its pairs and its notes
abbrev pub differences : Report → Report → List (List ℕ)
differences old new = head_lines old.head new.head ++ (change_lines old.pairs new.pairs ++ notes_lines old new)

-- a line for each difference
abbrev pub differences_text : Report → Report → List ℕ
differences_text old new = flat_map line_of (differences old new)
