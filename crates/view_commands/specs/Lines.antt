-- The lines of texts that are refused. `name` is that of the file.
use Rattle.std.specs.Prelude.{◌≡◌, ℕ, List, codes}
use Rattle.std.specs.Fmt.{decimal}
use Rattle.report_rows.specs.declared.faults.ReportFault.{ReportFault}
use Rattle.report_rows.specs.declared.faults.ReportFault.TheVariants as report
use Rattle.accepted_lists.specs.Days.{day_text}
use Rattle.accepted_lists.specs.declared.lists.LastDay.{LastDay}
use Rattle.accepted_lists.specs.declared.lists.ListFault.{ListFault}
use Rattle.accepted_lists.specs.declared.lists.ListFault.TheVariants as list
use Rattle.report_groups.specs.Groups.{◌⁀◌}
use Rattle.report_groups.specs.Remarks.{pairs_word}

-- a text that is no report
abbrev pub IsReportLine : List ℕ → ReportFault → List ℕ → Type 0
IsReportLine name (report.Line number) line = line ≡ name ⁀ codes ": line " ⁀ decimal number ⁀ codes " is no line of a report"
IsReportLine name report.Ends line = line ≡ name ⁀ codes " ends before its total"
IsReportLine name report.Json line = line ≡ name ⁀ codes ": it is no JSON of a report"
IsReportLine name (report.Pairs command count says) line =
    line ≡ name ⁀ codes ": command " ⁀ decimal command ⁀ codes " has " ⁀ decimal count ⁀ codes " " ⁀ pairs_word count ⁀ codes ", it says " ⁀ decimal says
IsReportLine name report.Total line = line ≡ name ⁀ codes ": its total is not that of its pairs"
IsReportLine name report.Memory line = ⊥

-- a text that is no accepted list
abbrev pub IsListLine : List ℕ → ListFault → List ℕ → Type 0
IsListLine name (list.Line number) line = line ≡ name ⁀ codes ":" ⁀ decimal number ⁀ codes ": no line of an accepted list"
IsListLine name list.Memory line = ⊥

-- a line of a list with this word as its last day, where no day is given
abbrev pub wanting_line : List ℕ → ℕ → List ℕ → List ℕ
wanting_line name line last = name ⁀ codes ":" ⁀ decimal line ⁀ codes ": until " ⁀ last ⁀ codes " wants --today"

abbrev pub undated_line : List ℕ → LastDay → List ℕ
undated_line name d = wanting_line name d.line (day_text d.last)
