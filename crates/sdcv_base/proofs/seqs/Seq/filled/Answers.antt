use Rattle.std.proofs.Common.{◌∙◌, ap, get_or}
use Rattle.sdcv_base.proofs.Filling.{get_or-filled}
use Rattle.sdcv_base.proofs.seqs.Seq.filled.Goals as goal

pub returns-clause-each : goal.returns-clause-each
returns-clause-each g c place = ap (λ s. get_or s place c.args.value) c.loop.invariant ∙ get_or-filled c.loop.counter place c.args.value
