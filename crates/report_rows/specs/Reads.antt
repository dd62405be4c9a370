-- What a text says as a report: its JSON where it begins with `{`, and else its lines.
use Rattle.std.specs.Prelude.{◌≡◌, ℕ, ◌==◌, Bool, true, false, List, slice_index, Some, None, Ok, Err, IsUtf8, MatchBool}
use Rattle.serde_json.specs.Data.{Data}
use Rattle.serde_json.specs.Read.{read as read_text}
use Rattle.report_rows.specs.Words.{pieces}
use Rattle.report_rows.specs.Totals.{IsCounted, IsCountCause}
use Rattle.report_rows.specs.LineReports.{of_lines}
use Rattle.report_rows.specs.Members.{totalled_in}
use Rattle.report_rows.specs.declared.faults.ReportFault.{ReportFault}
use Rattle.report_rows.specs.declared.faults.ReportFault.TheVariants.{Line, Ends, Json, Pairs, Total, Memory}
use Rattle.report_rows.specs.declared.reports.Report.{Report}
use Rattle.report_rows.specs.declared.totals.Tally.{Tally}
use Rattle.report_rows.specs.declared.totals.Totalled.{Totalled}

-- the text is taken as JSON: its first byte is `{`
abbrev pub is_json : List ℕ → Bool
is_json text = slice_index text 0 == 123

-- the value that a JSON text stands for
pub record IsValueOf (text : List ℕ) (d : Data) : Type 0 where
  pub utf8 : IsUtf8 text
  pub value : read_text text ≡ Some d

pub record IsJsonReport (text : List ℕ) (found : Totalled) : Type 0 where
  pub d : Data
  pub value : IsValueOf text d
  pub is : totalled_in d ≡ Some found

-- the text has these rows, and gives these totals
abbrev pub Says : List ℕ → Totalled → Type 0
Says text found = MatchBool (is_json text) (IsJsonReport text found) (of_lines (pieces text) ≡ Ok found)

-- the text is this report: it has its rows, and as many of them as it says
pub record IsReport (text : List ℕ) (r : Report) : Type 0 where
  pub total : Tally
  pub says : Says text (record { report = r; total = total })
  pub counted : IsCounted r total

-- the text has other numbers of rows than it says
pub record IsUncounted (text : List ℕ) (fault : ReportFault) : Type 0 where
  pub found : Totalled
  pub says : Says text found
  pub cause : IsCountCause found.report found.total fault

-- why it is none: a line, by its number, or the end; it is no JSON, or none of a report; or it has other numbers of rows than it says
abbrev pub IsReportCause : List ℕ → ReportFault → Type 0
IsReportCause text (Line n) = (is_json text ≡ false) × (of_lines (pieces text) ≡ Err (Line n))
IsReportCause text Ends = (is_json text ≡ false) × (of_lines (pieces text) ≡ Err Ends)
IsReportCause text Json = (is_json text ≡ true) × ((d : Data) → IsValueOf text d → totalled_in d ≡ None)
IsReportCause text (Pairs command pairs says) = IsUncounted text (Pairs command pairs says)
IsReportCause text Total = IsUncounted text Total
IsReportCause text Memory = Unit {0}

-- why it says nothing of a report, whatever its numbers of rows are
abbrev pub IsUnsaid : List ℕ → ReportFault → Type 0
IsUnsaid text (Pairs command pairs says) = ⊥
IsUnsaid text Total = ⊥
IsUnsaid text fault = IsReportCause text fault

-- why a text has no value
abbrev pub IsUnread : List ℕ → ReportFault → Type 0
IsUnread text Json = (d : Data) → IsValueOf text d → ⊥
IsUnread text Memory = Unit {0}
IsUnread text fault = ⊥

-- why it is no JSON of a report
abbrev pub IsJsonFault : List ℕ → ReportFault → Type 0
IsJsonFault text Json = (d : Data) → IsValueOf text d → totalled_in d ≡ None
IsJsonFault text Memory = Unit {0}
IsJsonFault text fault = ⊥
