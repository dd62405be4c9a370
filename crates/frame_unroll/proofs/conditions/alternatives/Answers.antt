use Rattle.std.proofs.Common.{◌≤◌, ◌*◌, length, ap, arith}
use Rattle.frame_unroll.proofs.Asking.{below_few, judged_few}
use Rattle.frame_unroll.proofs.conditions.alternatives.Goals as goal

pub returns-clause-few : goal.returns-clause-few
returns-clause-few c =
    let few : length c.loop-later.found ≤ 2 * c.loop-later.later = omega
    (arith, ap length c.loop-later.invariant, below_few c.args.design.now c.args.claim.now c.args.toggle c.loop-later.later) in
    omega (arith, few, judged_few c.args.design.now c.args.claim.now c.requires.fits, c.judged_count-later-end.ensures)
