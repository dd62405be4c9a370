use Rattle.std.proofs.Common.{◌∙◌, List, ℕ, ap}
use Rattle.sdc_objects.specs.Things.{names, pin_name}
use Rattle.sdc_objects.specs.declared.things.Thing.TheVariants as thing
use Rattle.list_laws.proofs.Joining.{added, turned}
use Rattle.case_objects.specs.Spots.{spot, pin_spot}
use Rattle.case_objects.proofs.spots.add_pin_spots.Goals as goal

pub loop-place-preserved : goal.loop-place-preserved
loop-place-preserved c =
    let at = thing.Pin c.args.k c.loop-place.place in
    let full = pin_name c.args.cell.now.name c.item.result.now.name in
    added (pin_spot c.args.query.now c.args.k c.args.cell.now.name) c.args.cell.now.pins c.args.found.now c.loop-place.found c.add_where.new.found
    c.loop-place.place c.item.result.now c.item.ensures c.loop-place.invariant
    (turned c.loop-place.found c.add_where.new.found c.is_named-named.result (names c.args.query.now full) (spot c.in_ok-name.name at) (spot full at)
    c.in_ok-add_where.ensures (c.is_named-named.ensures ∙ ap (names c.args.query.now) c.in_ok-name.ensures)
    (ap (λ (n : List ℕ). spot n at) c.in_ok-name.ensures))
