-- How many pairs a report has: of each verdict, and of each exception.
use Rattle.std.specs.Prelude.{◌≡◌, ◌≢◌, ℕ, ◌==◌, Bool, true, false, List, All, length, take, count_by, slice_get, Some}
use Rattle.report_rows.specs.declared.faults.ReportFault.{ReportFault}
use Rattle.report_rows.specs.declared.faults.ReportFault.TheVariants.{Pairs, Total}
use Rattle.report_rows.specs.declared.reports.Word.{Word}
use Rattle.report_rows.specs.declared.reports.Word.TheVariants.{Justified, Refuted, Undecided}
use Rattle.report_rows.specs.declared.reports.Said.{Said}
use Rattle.report_rows.specs.declared.reports.Said.TheVariants.{Does, Warns}
use Rattle.report_rows.specs.declared.reports.ScriptRow.{ScriptRow}
use Rattle.report_rows.specs.declared.reports.PairRow.{PairRow}
use Rattle.report_rows.specs.declared.reports.Report.{Report}
use Rattle.report_rows.specs.declared.totals.Tally.{Tally}

abbrev pub is_justified : Word → Bool
is_justified Justified = true
is_justified Refuted = false
is_justified Undecided = false

abbrev pub is_refuted : Word → Bool
is_refuted Justified = false
is_refuted Refuted = true
is_refuted Undecided = false

abbrev pub is_undecided : Word → Bool
is_undecided Justified = false
is_undecided Refuted = false
is_undecided Undecided = true

-- how many pairs have which verdict
abbrev pub tally_of : List PairRow → Tally
tally_of rows = record {
  pairs = length rows;
  justified = count_by (λ row. is_justified row.verdict) rows;
  refuted = count_by (λ row. is_refuted row.verdict) rows;
  undecided = count_by (λ row. is_undecided row.verdict) rows;
}

-- how many pairs are of the exception of this number
abbrev pub pairs_of : List PairRow → ℕ → ℕ
pairs_of rows command = count_by (λ row. row.command == command) rows

-- what is said of an exception claims something of so many pairs; a warning says nothing of their number
abbrev pub SaysPairs : ℕ → Said → Type 0
SaysPairs count (Does what pairs) = pairs ≡ count
SaysPairs count (Warns text) = Unit {0}

-- an exception has as many pairs as it says
abbrev pub HasItsPairs : List PairRow → ScriptRow → Type 0
HasItsPairs rows row = SaysPairs (pairs_of rows row.command) row.said

-- each exception has as many pairs as it says, and the totals are those of the pairs
pub record IsCounted (r : Report) (total : Tally) : Type 0 where
  pub exceptions : All (HasItsPairs r.pairs) r.script
  pub totals : total ≡ tally_of r.pairs

-- the exception has another number of pairs than it says
pub record SaysOthers (rows : List PairRow) (row : ScriptRow) (command pairs says : ℕ) : Type 0 where
  pub command_is : row.command ≡ command
  pub what : List ℕ
  pub does : row.said ≡ Does what says
  pub are : pairs_of rows command ≡ pairs
  pub differs : says ≢ pairs

-- the fault tells so
abbrev pub IsMiscount : List PairRow → ScriptRow → ReportFault → Type 0
IsMiscount rows row (Pairs command pairs says) = SaysOthers rows row command pairs says
IsMiscount rows row fault = ⊥

-- the fault tells so of the first such exception
pub record IsPairsCause (r : Report) (fault : ReportFault) : Type 0 where
  pub place : ℕ
  pub row : ScriptRow
  pub at : slice_get r.script place ≡ Some row
  pub before : All (HasItsPairs r.pairs) (take place r.script)
  pub miscount : IsMiscount r.pairs row fault

-- why it is not counted: the first exception that has another number of pairs than it says, or else the totals
abbrev pub IsCountCause : Report → Tally → ReportFault → Type 0
IsCountCause r total (Pairs command pairs says) = IsPairsCause r (Pairs command pairs says)
IsCountCause r total Total = All (HasItsPairs r.pairs) r.script × (total ≢ tally_of r.pairs)
IsCountCause r total fault = ⊥
