use Rattle.std.proofs.Common.{◌≡◌, ◌∙◌, ◌++◌, ◌∷◌, [], List, sym, ap, take}
use Rattle.net_model.specs.declared.claims.PinRef.{PinRef}
use Rattle.list_laws.proofs.Joining.{take_next}
use Rattle.exception_expand.proofs.claims.copied.Goals as goal

pub loop-k-preserved : goal.loop-k-preserved
loop-k-preserved c =
    let same : c.in_ok-of.field-0 ≡ c.item.result.now = c.in_ok-of.ensures ∙ c.as_slice.ensures ∙ c.pins.ensures in
    c.in_ok-push.ensures.ok ∙ ap (λ (xs : List (List PinRef)). xs ++ c.in_ok-of.field-0 ∷ []) c.loop-k.invariant
    ∙ ap (λ (x : List PinRef). take c.loop-k.k c.args.sets.now ++ x ∷ []) same
    ∙ sym (take_next c.args.sets.now c.loop-k.k c.item.result.now c.item.ensures)
