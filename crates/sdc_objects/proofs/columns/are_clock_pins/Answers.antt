use Rattle.std.proofs.Common.{refl, ◌≡◌, ◌∙◌, Bool, true, sym, ap}
use Rattle.std.proofs.lemmas.List.Folds.{list_all_more, list_all_at}
use Rattle.std.proofs.lemmas.Option.{slice_get_within, get_or_from_slice_get}
use Rattle.linked_types.specs.declared.names.PinName.{PinName}
use Rattle.sdc_objects.specs.Standing.{is_clock_role}
use Rattle.sdc_objects.proofs.columns.are_clock_pins.Goals as goal

pub returns-then-not-is_clock_role : goal.returns-then-not-is_clock_role
returns-then-not-is_clock_role c =
    let test : PinName → Bool = λ (p : PinName). is_clock_role p.role in
    let low = slice_get_within c.args.pins.now c.loop-k.k c.item.result.now c.item.ensures in
    let here = get_or_from_slice_get c.args.pins.now c.loop-k.k c.item.result.now c.item.result.now c.item.ensures in
    sym (list_all_at test c.args.pins.now c.loop-k.k c.item.result.now low (ap test here ∙ sym c.is_clock_role.ensures ∙ c.if-not-is_clock_role.true))

pub loop-k-preserved : goal.loop-k-preserved
loop-k-preserved c =
    let test : PinName → Bool = λ (p : PinName). is_clock_role p.role in
    let low = slice_get_within c.args.pins.now c.loop-k.k c.item.result.now c.item.ensures in
    let here = get_or_from_slice_get c.args.pins.now c.loop-k.k c.item.result.now c.item.result.now c.item.ensures in
    let passes : test (c.item.result.now) ≡ true = sym c.is_clock_role.ensures ∙ c.if-not-is_clock_role.false in
    list_all_more test c.args.pins.now c.loop-k.k c.item.result.now low ∙ rw (c.loop-k.invariant, ap test here, passes) refl
