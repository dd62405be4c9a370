use Rattle.std.proofs.Common.{refl, ◌≡◌, ◌∙◌, false, sym, ap}
use Rattle.std.proofs.lemmas.List.Folds.{list_any_more, list_any_at}
use Rattle.std.proofs.lemmas.Option.{slice_get_within, get_or_from_slice_get}
use Rattle.sdc_objects.specs.Standing.{is_judged_clock}
use Rattle.sdc_objects.proofs.named.has_clock.Goals as goal

pub returns-then-is_judged_clock : goal.returns-then-is_judged_clock
returns-then-is_judged_clock c =
    let low = slice_get_within c.args.things.now c.loop-k.k c.at.result c.at.ensures in
    let here = get_or_from_slice_get c.args.things.now c.loop-k.k c.at.result c.at.result c.at.ensures in
    sym (list_any_at is_judged_clock c.args.things.now c.loop-k.k c.at.result low
    (ap is_judged_clock here ∙ sym c.is_judged_clock.ensures ∙ c.if-is_judged_clock.true))

pub loop-k-preserved : goal.loop-k-preserved
loop-k-preserved c =
    let low = slice_get_within c.args.things.now c.loop-k.k c.at.result c.at.ensures in
    let here = get_or_from_slice_get c.args.things.now c.loop-k.k c.at.result c.at.result c.at.ensures in
    let fails : is_judged_clock c.at.result ≡ false = sym c.is_judged_clock.ensures ∙ c.if-is_judged_clock.false in
    list_any_more is_judged_clock c.args.things.now c.loop-k.k c.at.result low ∙ rw (c.loop-k.invariant, ap is_judged_clock here, fails) refl
