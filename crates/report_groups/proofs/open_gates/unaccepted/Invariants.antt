use Rattle.std.proofs.Common.{◌≡◌}
use Rattle.report_groups.specs.Findings.{unaccepted}
use Rattle.report_groups.proofs.open_gates.unaccepted.Given as goal

abbrev pub invariant-loop-finding : goal.invariant-loop-finding
invariant-loop-finding l = l.out ≡ unaccepted l.list l.yielded
