-- What is to be told of the lines of an accepted list.
use Rattle.std.specs.Prelude.{ℕ, ◌==◌, Bool, List, [], ◌∷◌, flat_map, codes, Option, Some, None, if◌then◌else◌}
use Rattle.std.specs.List.{list_any}
use Rattle.std.specs.Fmt.{decimal}
use Rattle.std.specs.Str.{bytes_eq}
use Rattle.report_rows.specs.declared.reports.Report.{Report}
use Rattle.accepted_lists.specs.Accepted.{said_in}
use Rattle.accepted_lists.specs.Days.{is_over, day_text}
use Rattle.accepted_lists.specs.InForce.{list_on}
use Rattle.accepted_lists.specs.Remarks.{pair_remark}
use Rattle.accepted_lists.specs.declared.days.Day.{Day}
use Rattle.accepted_lists.specs.declared.lists.Entry.{Entry}
use Rattle.accepted_lists.specs.declared.lists.Entry.TheVariants.{OnPairs, OnNote}
use Rattle.accepted_lists.specs.declared.lists.ListLine.{ListLine}
use Rattle.accepted_lists.specs.declared.lists.AcceptedList.{AcceptedList}
use Rattle.accepted_lists.specs.declared.remarks.Remark.{Remark}
use Rattle.accepted_lists.specs.declared.remarks.Remark.TheVariants.{Over, FitsNothing, Grown}
use Rattle.report_groups.specs.Groups.{◌⁀◌}
use Rattle.report_groups.specs.Findings.{findings_of}
use Rattle.report_groups.specs.declared.findings.Finding.{Finding}
use Rattle.report_groups.specs.declared.findings.Finding.TheVariants.{NoException, Note, Pairs}
use Rattle.report_groups.specs.declared.remarks.LineRemark.{LineRemark}

-- the words by which a note may be accepted: with its place and without
abbrev pub note_words : Finding → List (List ℕ)
note_words NoException = []
note_words (Note text) = text ∷ said_in text ∷ []
note_words (Pairs group) = []

-- some note has these words
abbrev pub is_said : List (List ℕ) → List ℕ → Bool
is_said words note = list_any (λ w. bytes_eq w note) words

-- an entry on a note fits none of those with these words
abbrev pub note_remark : List (List ℕ) → List ℕ → Option Remark
note_remark words note = if is_said words note then None else Some FitsNothing

abbrev pub entry_remark : AcceptedList → Report → List (List ℕ) → Entry → Option Remark
entry_remark list report words (OnPairs entry) = pair_remark report list.pairs entry
entry_remark list report words (OnNote note) = note_remark words note

-- an entry whose last day is over is told so, whatever it would fit
abbrev pub line_remark : Option Day → Option Remark → Option Day → Option Remark
line_remark today found None = found
line_remark today found (Some last) = if is_over today (Some last) then Some (Over last) else found

abbrev pub numbered : ℕ → Option Remark → List LineRemark
numbered line None = []
numbered line (Some remark) = record { line = line; remark = remark } ∷ []

-- what is to be told of a line
abbrev pub remarks_on : Option Day → AcceptedList → Report → List (List ℕ) → ListLine → List LineRemark
remarks_on today list report words line = numbered line.number (line_remark today (entry_remark list report words line.entry) line.until)

-- what is to be told of the lines of a list, of this report on this day
abbrev pub remarks_of : Option Day → List ListLine → Report → List LineRemark
remarks_of today lines report =
    flat_map (remarks_on today (list_on today lines) report (flat_map note_words (findings_of report))) lines

abbrev pub pairs_word : ℕ → List ℕ
pairs_word count = if count == 1 then codes "pair" else codes "pairs"

abbrev pub remark_text : Remark → List ℕ
remark_text (Over last) = codes "until " ⁀ day_text last ⁀ codes " is over"
remark_text FitsNothing = codes "fits nothing"
remark_text (Grown most pairs) = codes "accepts " ⁀ decimal most ⁀ codes " " ⁀ pairs_word most ⁀ codes ", here are " ⁀ decimal pairs

-- the remark on a line of the file of this name
abbrev pub line_remark_text : List ℕ → LineRemark → List ℕ
line_remark_text name r = name ⁀ codes ":" ⁀ decimal r.line ⁀ codes ": " ⁀ remark_text r.remark
