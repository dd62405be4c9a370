use Rattle.std.proofs.Common.{◌≡◌, take}
use Rattle.std.specs.Prelude.{flat_map}
use Rattle.report_groups.specs.Remarks.{remarks_on}
use Rattle.report_groups.proofs.remarks.remarks_among.Given as goal

abbrev pub invariant-loop-line : goal.invariant-loop-line
invariant-loop-line l = l.out ≡ flat_map (remarks_on l.today l.list l.report l.words) (take l.line-index l.lines)
