use Rattle.std.proofs.Common.{◌≡◌, ◌+◌, map, drop}
use Rattle.report_rows.specs.LineReports.{with_lines}
use Rattle.report_rows.proofs.line_reports.add_lines.Given as goal

abbrev pub invariant-loop-place : goal.invariant-loop-place
invariant-loop-place l =
    with_lines 2 l.fn.found (map (λ t. t.now) l.lines) ≡ with_lines (l.place + 2) l.found (map (λ t. t.now) (drop l.place l.lines))
