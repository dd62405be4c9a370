use Rattle.std.proofs.Common.{◌≡◌, ◌++◌, map}
use Rattle.report_groups.specs.declared.findings.Finding.TheVariants.{Pairs}
use Rattle.report_groups.proofs.findings.add_groups.Given as goal

abbrev pub invariant-loop-group : goal.invariant-loop-group
invariant-loop-group l = l.out ≡ l.fn.out ++ map Pairs l.yielded
