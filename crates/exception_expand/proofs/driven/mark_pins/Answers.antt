use Rattle.std.proofs.Common.{arith, ◌∙◌}
use Rattle.exception_expand.specs.Points.{has_mark}
use Rattle.exception_expand.proofs.Driving.{marked_more}
use Rattle.exception_expand.proofs.driven.mark_pins.Goals as goal

pub loop-k-preserved : goal.loop-k-preserved
loop-k-preserved c = record {
  len = c.mark_source.ensures.len ∙ c.loop-k.invariant.len;
  marked = λ i low.
      marked_more c.args.pins.now c.loop-k.k i c.item.result.now (has_mark c.args.marks.now i) (has_mark c.loop-k.marks i) (has_mark c.mark_source.new.marks i)
      c.item.ensures (c.loop-k.invariant.marked i low) (c.mark_source.ensures.marked i (omega (arith, low, c.loop-k.invariant.len)));
}
