use Rattle.std.proofs.Common.{◌∙◌, sym, refl}
use Rattle.mended_text.proofs.Comparing.{same_next}
use Rattle.mended_text.proofs.claims.are_sets.Goals as goal

pub loop-k-preserved : goal.loop-k-preserved
loop-k-preserved c =
    same_next c.args.a.now c.args.b.now c.loop-k.k c.item.result.now c.item-in-loop-k.result.now
    c.item.ensures c.item-in-loop-k.ensures
    (sym c.pins.ensures ∙ c.if-not-are_pins.ensures.0 refl ∙ c.pins-in-loop-k.ensures) c.loop-k.invariant
