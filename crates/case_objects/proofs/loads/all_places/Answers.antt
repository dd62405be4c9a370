use Rattle.std.proofs.Common.{◌++◌, ◌∙◌, ap, sym, List}
use Rattle.net_model.specs.declared.claims.PinRef.{PinRef}
use Rattle.list_laws.proofs.Joining.{flat_next}
use Rattle.case_objects.specs.declared.values.CaseValue.{CaseValue}
use Rattle.case_objects.proofs.loads.all_places.Goals as goal

pub loop-k-preserved : goal.loop-k-preserved
loop-k-preserved c =
    let of : CaseValue → List PinRef = λ (v : CaseValue). v.place in
    c.in_ok-push_pins.ensures ∙ ap (λ list. list ++ of c.item.result.now) c.loop-k.invariant
    ∙ sym (flat_next of c.args.values.now c.loop-k.k c.item.result.now c.item.ensures)
