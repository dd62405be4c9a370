use Rattle.std.proofs.Common.{◌≡◌, false, sym, ◌∙◌, arith}
use Rattle.link_defs.specs.declared.cuts.CutPin.{CutPin}
use Rattle.link_items.proofs.Listing.{all_more, all_done}
use Rattle.link_cuts.specs.Outs.{is_driven}
use Rattle.link_cuts.proofs.driven.driven_of.Goals as goal

pub loop-pin-preserved : goal.loop-pin-preserved
loop-pin-preserved c =
    all_more (λ (p : CutPin). is_driven c.args.driven.now p ≡ false) c.args.pins.now c.loop-pin.pin c.item.result.now c.item.ensures c.loop-pin.invariant
    (sym c.is_driven.ensures ∙ c.if-is_driven.false)

pub returns : goal.returns
returns c =
    all_done (λ (p : CutPin). is_driven c.args.driven.now p ≡ false) c.args.pins.now c.loop-pin.pin (omega arith) c.loop-pin.invariant
