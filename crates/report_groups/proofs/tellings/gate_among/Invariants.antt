use Rattle.std.proofs.Common.{◌≡◌, ◌==◌, not, take, length}
use Rattle.std.specs.Prelude.{filter}
use Rattle.report_groups.specs.Findings.{findings_text, passes}
use Rattle.report_groups.proofs.tellings.gate_among.Given as goal

abbrev pub invariant-loop-finding : goal.invariant-loop-finding
invariant-loop-finding l = record {
  text : l.text.items ≡ findings_text (filter (λ f. not (passes f)) (take l.finding-index l.findings));
  passed : l.passed ≡ (length (filter (λ f. not (passes f)) (take l.finding-index l.findings)) == 0);
}
