-- From why a step of reading fails to why the text is no report.
use Rattle.std.proofs.Common.{ℕ, List}
use Rattle.report_rows.specs.Totals.{IsCountCause}
use Rattle.report_rows.specs.Reads.{IsReportCause, IsUnsaid, Says}
use Rattle.report_rows.specs.declared.faults.ReportFault.{ReportFault}
use Rattle.report_rows.specs.declared.faults.ReportFault.TheVariants.{Line, Ends, Json, Pairs, Total, Memory}
use Rattle.report_rows.specs.declared.totals.Totalled.{Totalled}

-- it says nothing of a report
pub unsaid_is_cause : (text : List ℕ) (fault : ReportFault) → IsUnsaid text fault → IsReportCause text fault
unsaid_is_cause text (Line n) unsaid = unsaid
unsaid_is_cause text Ends unsaid = unsaid
unsaid_is_cause text Json unsaid = unsaid
unsaid_is_cause text (Pairs command pairs says) unsaid = absurd unsaid
unsaid_is_cause text Total unsaid = absurd unsaid
unsaid_is_cause text Memory unsaid = tt

-- or it has other numbers of rows than it says
pub uncounted_is_cause : (text : List ℕ) (found : Totalled) (fault : ReportFault) → Says text found → IsCountCause found.report found.total fault
    → IsReportCause text fault
uncounted_is_cause text found (Line n) says cause = absurd cause
uncounted_is_cause text found Ends says cause = absurd cause
uncounted_is_cause text found Json says cause = absurd cause
uncounted_is_cause text found (Pairs command pairs has) says cause = record { found = found; says = says; cause = cause }
uncounted_is_cause text found Total says cause = record { found = found; says = says; cause = cause }
uncounted_is_cause text found Memory says cause = tt
