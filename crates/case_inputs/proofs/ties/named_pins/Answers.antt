use Rattle.std.proofs.Common.{◌∙◌, List, ◌++◌, ap, sym}
use Rattle.list_laws.proofs.Joining.{flat_next}
use Rattle.net_model.specs.declared.claims.PinRef.{PinRef}
use Rattle.case_inputs.specs.Ties.{pins_of}
use Rattle.case_inputs.proofs.ties.named_pins.Goals as goal

pub loop-j-preserved : goal.loop-j-preserved
loop-j-preserved c =
    c.in_ok-push_pins.ensures ∙ ap (λ (pins : List PinRef). pins ++ c.item.result.now.pins) c.loop-j.invariant
    ∙ sym (flat_next pins_of c.args.assumed.now c.loop-j.j c.item.result.now c.item.ensures)
