-- What is to be told of an entry that does not accept what it says.
use Rattle.std.specs.Prelude.{ℕ, ◌-◌, ◌==◌, List, Option, Some, None, if◌then◌else◌}
use Rattle.report_rows.specs.declared.reports.Report.{Report}
use Rattle.accepted_lists.specs.Accepted.{is_of_mode, fitted, granted}
use Rattle.accepted_lists.specs.declared.pair_entries.PairEntry.{PairEntry}
use Rattle.accepted_lists.specs.declared.remarks.Remark.{Remark}
use Rattle.accepted_lists.specs.declared.remarks.Remark.TheVariants.{FitsNothing, Grown}

-- how many pairs of a report an entry fits, where the report was made with the hazards and the lag that it asks for
abbrev pub fitted_here : Report → PairEntry → ℕ
fitted_here report e = if is_of_mode report.head e then fitted report.pairs e else 0

-- an entry with a count fits more pairs than it accepts with those like it
abbrev pub grown : Option ℕ → ℕ → ℕ → Option Remark
grown None most pairs = None
grown (Some count) most pairs = if (pairs - most) == 0 then None else Some (Grown most pairs)

abbrev pub remark_on : Option ℕ → ℕ → ℕ → Option Remark
remark_on count most pairs = if pairs == 0 then Some FitsNothing else grown count most pairs

-- an entry on pairs fits none, or more than it accepts
abbrev pub pair_remark : Report → List PairEntry → PairEntry → Option Remark
pair_remark report entries e = remark_on e.count (granted report.head entries e) (fitted_here report e)
