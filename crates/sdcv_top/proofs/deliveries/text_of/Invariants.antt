use Rattle.std.proofs.Common.{◌≡◌, take}
use Rattle.judgements.specs.Reports.{joined}
use Rattle.sdcv_top.proofs.deliveries.text_of.Given as goal

abbrev pub invariant-loop-line : goal.invariant-loop-line
invariant-loop-line l = l.text.items ≡ joined (take l.line-index l.lines)
