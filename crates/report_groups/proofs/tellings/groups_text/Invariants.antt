use Rattle.std.proofs.Common.{◌≡◌, take}
use Rattle.report_groups.specs.Findings.{findings_text}
use Rattle.report_groups.proofs.tellings.groups_text.Given as goal

abbrev pub invariant-loop-finding : goal.invariant-loop-finding
invariant-loop-finding l = l.out.items ≡ findings_text (take l.finding-index l.finding-items)
