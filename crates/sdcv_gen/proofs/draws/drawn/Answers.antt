use Rattle.std.proofs.Common.{rules, arith, ◌-◌}
use Rattle.sdcv_gen.proofs.Drawing.{step_keeps, end_is}
use Rattle.sdcv_gen.proofs.draws.drawn.Goals as goal

pub draws-preserved : goal.draws-preserved
draws-preserved c =
    step_keeps c.draws.blocks.items _ _ c.next_word.result _ (c.args.size - c.draws.counter) _ _ c.next_word.ensures (omega arith) (search rules) c.draws.invariant

pub returns : goal.returns
returns c = end_is _ _ (c.args.size - c.draws.counter) _ (omega arith) c.draws.invariant
