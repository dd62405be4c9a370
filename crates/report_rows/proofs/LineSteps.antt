-- How a report by lines goes on, one line after another.
use Rattle.std.proofs.Common.{◌≡◌, ◌∙◌, ◌+◌, ◌==◌, ap, sym, refl, true, false, Bool, ℕ, List, [], ◌∷◌, Result, Err, length}
use Rattle.std.specs.Prelude.{if◌then◌else◌}
use Rattle.sdcv_base.specs.Steps.{◌>>=◌}
use Rattle.report_rows.specs.Words.{words, when}
use Rattle.report_rows.specs.Lines.{with_line, begins_total}
use Rattle.report_rows.specs.LineReports.{or_line, with_total, with_lines}
use Rattle.report_rows.specs.declared.faults.ReportFault.{ReportFault}
use Rattle.report_rows.specs.declared.faults.ReportFault.TheVariants.{Line, Ends}
use Rattle.report_rows.specs.declared.reports.Report.{Report}
use Rattle.report_rows.specs.declared.totals.Totalled.{Totalled}

-- what comes of a line that is not the last piece
abbrev after_line : ℕ → Report → List ℕ → List (List ℕ) → Result Totalled ReportFault
after_line number found line others =
    if begins_total (words line) then with_total number found (words line) others
    else (or_line number (with_line number found (words line)) >>= λ more. with_lines (number + 1) more others)

pub with_lines-cons : (number : ℕ) (found : Report) (line : List ℕ) (others : List (List ℕ))
    → with_lines number found (line ∷ others) ≡ (if length others == 0 then Err Ends else after_line number found line others)
unfolding with_lines
with_lines-cons number found line others = refl

pub with_lines-nil : (number : ℕ) (found : Report) → with_lines number found [] ≡ Err Ends
unfolding with_lines
with_lines-nil number found = refl

-- what follows the last newline is no line
pub lines_end : (number : ℕ) (found : Report) (line : List ℕ) (others : List (List ℕ)) → (length others == 0) ≡ true
    → with_lines number found (line ∷ others) ≡ Err Ends
lines_end number found line others last =
    with_lines-cons number found line others
    ∙ ap (λ (b : Bool). if b then Err Ends else after_line number found line others) last

whole_line : (number : ℕ) (found : Report) (line : List ℕ) (others : List (List ℕ)) → (length others == 0) ≡ false
    → with_lines number found (line ∷ others) ≡ after_line number found line others
whole_line number found line others whole =
    with_lines-cons number found line others
    ∙ ap (λ (b : Bool). if b then Err Ends else after_line number found line others) whole

-- the line of the totals is the last
pub lines_total : (number : ℕ) (found : Report) (line : List ℕ) (others : List (List ℕ)) → (length others == 0) ≡ false
    → begins_total (words line) ≡ true → with_lines number found (line ∷ others) ≡ with_total number found (words line) others
lines_total number found line others whole total =
    whole_line number found line others whole
    ∙ ap (λ (b : Bool). if b then with_total number found (words line) others
    else (or_line number (with_line number found (words line)) >>= λ more. with_lines (number + 1) more others)) total

other_line : (number : ℕ) (found : Report) (line : List ℕ) (others : List (List ℕ)) → (length others == 0) ≡ false
    → begins_total (words line) ≡ false
    → with_lines number found (line ∷ others) ≡ (or_line number (with_line number found (words line)) >>= λ more. with_lines (number + 1) more others)
other_line number found line others whole total =
    whole_line number found line others whole
    ∙ ap (λ (b : Bool). if b then with_total number found (words line) others
    else (or_line number (with_line number found (words line)) >>= λ more. with_lines (number + 1) more others)) total

-- a line that fits is one more
pub lines_more : (number : ℕ) (found new : Report) (line : List ℕ) (others : List (List ℕ)) (fits : Bool) → (length others == 0) ≡ false
    → begins_total (words line) ≡ false → when fits new ≡ with_line number found (words line) → fits ≡ true
    → with_lines number found (line ∷ others) ≡ with_lines (number + 1) new others
lines_more number found new line others fits whole total step fit =
    other_line number found line others whole total
    ∙ ap (λ o. or_line number o >>= λ more. with_lines (number + 1) more others) (sym step)
    ∙ ap (λ b. or_line number (when b new) >>= λ more. with_lines (number + 1) more others) fit

-- one that does not is the fault
pub lines_stuck : (number : ℕ) (found new : Report) (line : List ℕ) (others : List (List ℕ)) (fits : Bool) → (length others == 0) ≡ false
    → begins_total (words line) ≡ false → when fits new ≡ with_line number found (words line) → fits ≡ false
    → with_lines number found (line ∷ others) ≡ Err (Line number)
lines_stuck number found new line others fits whole total step never =
    other_line number found line others whole total
    ∙ ap (λ o. or_line number o >>= λ more. with_lines (number + 1) more others) (sym step)
    ∙ ap (λ b. or_line number (when b new) >>= λ more. with_lines (number + 1) more others) never
