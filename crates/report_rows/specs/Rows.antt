-- The rows that a report has so far, and one more.
use Rattle.std.specs.Prelude.{ℕ, ◌+◌, ◌-◌, ◌==◌, Bool, true, false, List, [], ◌∷◌, ◌++◌, length, slice_get, codes, Option, Some, None, if◌then◌else◌}
use Rattle.std.specs.Str.{bytes_eq}
use Rattle.report_rows.specs.declared.reports.Word.{Word}
use Rattle.report_rows.specs.declared.reports.Word.TheVariants.{Justified, Refuted, Undecided}
use Rattle.report_rows.specs.declared.reports.Told.{Told}
use Rattle.report_rows.specs.declared.reports.ScriptRow.{ScriptRow}
use Rattle.report_rows.specs.declared.reports.PairRow.{PairRow}
use Rattle.report_rows.specs.declared.reports.Report.{Report}

-- a verdict by its word
unfoldable pub verdict_in : List ℕ → Option Word
verdict_in w =
    if bytes_eq w (codes "justified") then Some Justified
    else (if bytes_eq w (codes "refuted") then Some Refuted else (if bytes_eq w (codes "undecided") then Some Undecided else None))

-- whether claims are judged with hazards, by the word of the mode
unfoldable pub hazard_in : List ℕ → Option Bool
hazard_in w = if bytes_eq w (codes "hazard") then Some true else (if bytes_eq w (codes "plain") then Some false else None)

-- the report with a row more on what is told beside the exceptions
abbrev pub with_told : Report → Told → Report
with_told found row = record found { told = found.told ++ row ∷ [] }

-- the report with a row more on an exception
abbrev pub with_script : Report → ScriptRow → Report
with_script found row = record found { script = found.script ++ row ∷ [] }

-- the row on an exception that came last
abbrev pub last_script : Report → Option ScriptRow
last_script found = slice_get found.script (length found.script - 1)

-- the report with a pair more, which has the next number
abbrev pub with_pair : Report → PairRow → Option Report
with_pair found row = if row.number == length found.pairs + 1 then Some (record found { pairs = found.pairs ++ row ∷ [] }) else None
