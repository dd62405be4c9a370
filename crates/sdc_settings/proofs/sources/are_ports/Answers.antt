use Rattle.std.proofs.Common.{refl, ◌≡◌, ◌∙◌, true, sym, ap}
use Rattle.std.proofs.lemmas.List.Folds.{list_all_more, list_all_at}
use Rattle.std.proofs.lemmas.Option.{slice_get_within, get_or_from_slice_get}
use Rattle.sdc_settings.specs.Inputs.{is_port_object}
use Rattle.sdc_settings.proofs.sources.are_ports.Goals as goal

pub returns-then-not-is_port_object : goal.returns-then-not-is_port_object
returns-then-not-is_port_object c =
    let low = slice_get_within c.args.objects.now c.loop-k.k c.item.result.now c.item.ensures in
    let here = get_or_from_slice_get c.args.objects.now c.loop-k.k c.item.result.now c.item.result.now c.item.ensures in
    sym (list_all_at is_port_object c.args.objects.now c.loop-k.k c.item.result.now low
    (ap is_port_object here ∙ sym c.is_port_object.ensures ∙ c.if-not-is_port_object.true))

pub loop-k-preserved : goal.loop-k-preserved
loop-k-preserved c =
    let low = slice_get_within c.args.objects.now c.loop-k.k c.item.result.now c.item.ensures in
    let here = get_or_from_slice_get c.args.objects.now c.loop-k.k c.item.result.now c.item.result.now c.item.ensures in
    let passes : is_port_object c.item.result.now ≡ true = sym c.is_port_object.ensures ∙ c.if-not-is_port_object.false in
    list_all_more is_port_object c.args.objects.now c.loop-k.k c.item.result.now low ∙ rw (c.loop-k.invariant, ap is_port_object here, passes) refl
