use Rattle.std.proofs.Common.{refl, ◌≡◌, ◌∙◌, Bool, false, sym, ap}
use Rattle.std.proofs.lemmas.List.Folds.{list_any_more, list_any_at}
use Rattle.std.proofs.lemmas.Option.{slice_get_within, get_or_from_slice_get}
use Rattle.script_types.specs.declared.objects.Object.{Object}
use Rattle.sdc_objects.specs.Delays.{is_clock_of}
use Rattle.sdc_objects.proofs.delays.names_clock.Goals as goal

pub returns-then-is_clock_of : goal.returns-then-is_clock_of
returns-then-is_clock_of c =
    let test : Object → Bool = is_clock_of c.args.name.now in
    let low = slice_get_within c.args.clocks.now c.loop-k.k c.item.result.now c.item.ensures in
    let here = get_or_from_slice_get c.args.clocks.now c.loop-k.k c.item.result.now c.item.result.now c.item.ensures in
    sym (list_any_at test c.args.clocks.now c.loop-k.k c.item.result.now low (ap test here ∙ sym c.is_clock_of.ensures ∙ c.if-is_clock_of.true))

pub loop-k-preserved : goal.loop-k-preserved
loop-k-preserved c =
    let test : Object → Bool = is_clock_of c.args.name.now in
    let low = slice_get_within c.args.clocks.now c.loop-k.k c.item.result.now c.item.ensures in
    let here = get_or_from_slice_get c.args.clocks.now c.loop-k.k c.item.result.now c.item.result.now c.item.ensures in
    let misses : test (c.item.result.now) ≡ false = sym c.is_clock_of.ensures ∙ c.if-is_clock_of.false in
    list_any_more test c.args.clocks.now c.loop-k.k c.item.result.now low ∙ rw (c.loop-k.invariant, ap test here, misses) refl
