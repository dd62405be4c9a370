-- What a text by lines says: the rows of a report with its totals, or the first line that is none of a report.
use Rattle.std.specs.Prelude.{◌≡◌, ℕ, ◌+◌, ◌==◌, Bool, false, List, [], ◌∷◌, length, Option, Some, None, Result, Ok, Err, if◌then◌else◌}
use Rattle.sdcv_base.specs.Steps.{◌>>=◌}
use Rattle.report_rows.specs.Words.{words}
use Rattle.report_rows.specs.Heads.{head_of, rowless}
use Rattle.report_rows.specs.Lines.{with_line, begins_total, total_of}
use Rattle.report_rows.specs.declared.faults.ReportFault.{ReportFault}
use Rattle.report_rows.specs.declared.faults.ReportFault.TheVariants.{Line, Ends, Memory}
use Rattle.report_rows.specs.declared.reports.Report.{Report}
use Rattle.report_rows.specs.declared.totals.Tally.{Tally}
use Rattle.report_rows.specs.declared.totals.Totalled.{Totalled}

-- after the last line no text is left
abbrev pub is_end : List (List ℕ) → Bool
is_end [] = false
is_end (last ∷ []) = length last == 0
is_end (a ∷ b ∷ others) = false

-- what is found, or the fault at the line of this number where nothing is
abbrev pub or_line : {A : Type 0} → ℕ → Option A → Result A ReportFault
or_line number None = Err (Line number)
or_line number (Some a) = Ok a

-- the rows with these totals, where no text is left after the line of this number
abbrev pub ended : ℕ → Report → Tally → List (List ℕ) → Result Totalled ReportFault
ended number found total others = if is_end others then Ok (record { report = found; total = total }) else Err (Line (number + 1))

-- the rows with the totals that the line of this number gives
abbrev pub with_total : ℕ → Report → List (List ℕ) → List (List ℕ) → Result Totalled ReportFault
with_total number found ws others = or_line number (total_of ws) >>= λ total. ended number found total others

-- the rows with what further lines say, of which the first has this number; the last of them is that of the totals, and each
-- has a newline after it
unfoldable pub with_lines : ℕ → Report → List (List ℕ) → Result Totalled ReportFault
with_lines number found [] = Err Ends
with_lines number found (line ∷ others) =
    if length others == 0 then Err Ends
    else (if begins_total (words line) then with_total number found (words line) others
    else (or_line number (with_line number found (words line)) >>= λ more. with_lines (number + 1) more others))

-- a report by lines, or the first line that is none of a report
unfoldable pub of_lines : List (List ℕ) → Result Totalled ReportFault
of_lines [] = Err (Line 1)
of_lines (first ∷ others) = or_line 1 (head_of (words first)) >>= λ head. with_lines 2 (rowless head) others

-- the fault is the one that is found, unless memory ran out
abbrev pub IsLineFault : Result Totalled ReportFault → ReportFault → Type 0
IsLineFault found (Line n) = found ≡ Err (Line n)
IsLineFault found Ends = found ≡ Err Ends
IsLineFault found Memory = Unit {0}
IsLineFault found fault = ⊥
