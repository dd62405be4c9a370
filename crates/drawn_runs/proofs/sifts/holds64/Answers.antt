use Rattle.std.proofs.Common.{arith}
use Rattle.net_model.specs.Queries.{clause_holds}
use Rattle.drawn_runs.specs.Sifts.{bits_cycle}
use Rattle.drawn_runs.proofs.Sifting.{full_is}
use Rattle.drawn_runs.proofs.sifts.holds64.Goals as goal

pub returns : goal.returns
returns c =
    full_is c.clause64-word.result (λ i. clause_holds (bits_cycle i c.args.bits.now) c.args.clause.now) (omega arith) c.clause64-word.ensures
