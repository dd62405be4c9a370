use Rattle.std.proofs.Common.{arith}
use Rattle.std.specs.Prelude.{◌||◌, not}
use Rattle.net_model.specs.Queries.{clause_holds}
use Rattle.net_model.specs.LaneBits.{lane}
use Rattle.drawn_runs.specs.Sifts.{bits_cycle}
use Rattle.drawn_runs.proofs.Sifting.{full_is}
use Rattle.drawn_runs.proofs.Stretching.{either_is}
use Rattle.drawn_runs.proofs.stretches.holds_where.Goals as goal

pub returns : goal.returns
returns c =
    full_is c.either-word.result (λ i. clause_holds (bits_cycle i c.args.bits.now) c.args.clause.now || not (lane c.args.lanes i)) (omega arith)
    (λ i lt. either_is _ _ _ _ _ (c.either-word.ensures i lt) (c.clause64.ensures i lt) (c.complement.ensures i lt))
