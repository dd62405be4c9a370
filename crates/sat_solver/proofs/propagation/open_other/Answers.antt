use Rattle.std.proofs.Common.{arith}
use Rattle.sat_solver.proofs.Analyzing.{OthersFalse-search}
use Rattle.sat_solver.proofs.propagation.open_other.Goals as goal

pub returns : goal.returns
returns c =
    OthersFalse-search c.args.trail.now.lits c.args.clause.now c.split_at.result.0.now c.split_at.result.1.now c.args.other c.min.result
    (omega (arith, c.split_at.ensures.back_len, c.split_at.ensures.front_len)) c.split_at.ensures.front c.split_at.ensures.back c.in_default.ensures
    c.first_open-2.result c.first_open-2.ensures
