use Rattle.std.proofs.Common.{◌∙◌, List, ◌∷◌, ◌++◌, [], take, ap, sym}
use Rattle.list_laws.proofs.Joining.{map_next}
use Rattle.net_model.specs.declared.claims.PinRef.{PinRef}
use Rattle.case_inputs.specs.Ties.{pins_of, pin_sets}
use Rattle.case_inputs.proofs.ties.pin_sets.Goals as goal

pub loop-j-preserved : goal.loop-j-preserved
loop-j-preserved c =
    c.in_ok-push.ensures.ok ∙ ap (λ (sets : List (List PinRef)). sets ++ c.in_ok-of.field-0 ∷ []) c.loop-j.invariant
    ∙ ap (λ (pins : List PinRef). pin_sets (take c.loop-j.j c.args.assumed.now) ++ pins ∷ []) (c.in_ok-of.ensures ∙ c.as_slice.ensures)
    ∙ sym (map_next pins_of c.args.assumed.now c.loop-j.j c.item.result.now c.item.ensures)
