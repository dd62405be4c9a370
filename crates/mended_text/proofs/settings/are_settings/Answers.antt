use Rattle.std.proofs.Common.{refl}
use Rattle.mended_text.proofs.Comparing.{same_next}
use Rattle.mended_text.proofs.settings.are_settings.Goals as goal

pub loop-k-preserved : goal.loop-k-preserved
loop-k-preserved c =
    same_next c.args.a.now c.args.b.now c.loop-k.k c.item.result.now c.item-in-loop-k.result.now
    c.item.ensures c.item-in-loop-k.ensures (c.if-not-is_setting.ensures.0 refl) c.loop-k.invariant
