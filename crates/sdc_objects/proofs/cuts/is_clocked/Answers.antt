use Rattle.std.proofs.Common.{refl, ◌≡◌, ◌∙◌, Bool, false, sym, ap}
use Rattle.std.proofs.lemmas.List.Folds.{list_any_more, list_any_at}
use Rattle.std.proofs.lemmas.Option.{slice_get_within, get_or_from_slice_get}
use Rattle.linked_types.specs.declared.names.PinName.{PinName}
use Rattle.sdc_objects.specs.Cuts.{is_side}
use Rattle.sdc_objects.proofs.cuts.is_clocked.Goals as goal

pub returns-then-is_side : goal.returns-then-is_side
returns-then-is_side c =
    let test : PinName → Bool = λ (p : PinName). is_side p.role in
    let low = slice_get_within c.args.pins.now c.loop-k.k c.item.result.now c.item.ensures in
    let here = get_or_from_slice_get c.args.pins.now c.loop-k.k c.item.result.now c.item.result.now c.item.ensures in
    sym (list_any_at test c.args.pins.now c.loop-k.k c.item.result.now low (ap test here ∙ sym c.is_side.ensures ∙ c.if-is_side.true))

pub loop-k-preserved : goal.loop-k-preserved
loop-k-preserved c =
    let test : PinName → Bool = λ (p : PinName). is_side p.role in
    let low = slice_get_within c.args.pins.now c.loop-k.k c.item.result.now c.item.ensures in
    let here = get_or_from_slice_get c.args.pins.now c.loop-k.k c.item.result.now c.item.result.now c.item.ensures in
    let fails : test (c.item.result.now) ≡ false = sym c.is_side.ensures ∙ c.if-is_side.false in
    list_any_more test c.args.pins.now c.loop-k.k c.item.result.now low ∙ rw (c.loop-k.invariant, ap test here, fails) refl
