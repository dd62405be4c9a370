-- What is told of a report alone, and why nothing is.
use Rattle.std.specs.Prelude.{◌≡◌, ℕ, List, Bool, true, false, string_bytes}
use Rattle.report_rows.specs.Reads.{IsReport, IsReportCause}
use Rattle.report_rows.specs.declared.faults.ReportFault.{ReportFault}
use Rattle.report_rows.specs.declared.reports.Report.{Report}
use Rattle.report_groups.specs.Csv.{csv_text}
use Rattle.report_groups.specs.Findings.{findings_of, findings_text}
use Rattle.report_groups.specs.Groups.{groups_of}
use Rattle.view_commands.specs.Lines.{IsReportLine}
use Rattle.view_commands.specs.declared.stops.Stop.{Stop}
use Rattle.view_commands.specs.declared.stops.Stop.TheVariants.{Words, Line, Refused, Memory}

-- the line of a text with this fault is told, or there was no memory for it
abbrev pub TellsFault : List ℕ → ReportFault → Stop → Type 0
TellsFault name fault (Words why) = ⊥
TellsFault name fault (Line line) = ⊥
TellsFault name fault (Refused line) = IsReportLine name fault (string_bytes line)
TellsFault name fault Memory = Unit {0}

-- a text of that name is no report, or memory was wanted
pub record IsNoReport (name text : List ℕ) (stop : Stop) : Type 0 where
  pub fault : ReportFault
  pub cause : IsReportCause text fault
  pub told : TellsFault name fault stop

-- a report by groups, or the groups as comma-separated values
abbrev pub told_text : Bool → Report → List ℕ
told_text true report = csv_text (groups_of report.pairs)
told_text false report = findings_text (findings_of report)

-- the text tells the report that another text is
pub record AreGroups (text : List ℕ) (csv : Bool) (told : List ℕ) : Type 0 where
  pub is : Report
  pub read : IsReport text is
  pub tells : told ≡ told_text csv is
