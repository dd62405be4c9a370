use Rattle.std.proofs.Common.{refl}
use Rattle.mended_text.proofs.Comparing.{same_next}
use Rattle.mended_text.proofs.claims.are_pins.Goals as goal

pub loop-k-preserved : goal.loop-k-preserved
loop-k-preserved c =
    same_next c.args.a.now c.args.b.now c.loop-k.k c.at.result c.at-in-loop-k.result
    c.at.ensures c.at-in-loop-k.ensures (c.if-not-is_pin.ensures.0 refl) c.loop-k.invariant
