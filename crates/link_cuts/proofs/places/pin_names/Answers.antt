use Rattle.std.proofs.Common.{ap, map, ◌∙◌}
use Rattle.std.proofs.lemmas.List.{map_push}
use Rattle.link_defs.specs.Cuts.{pin_name}
use Rattle.link_items.proofs.Listing.{push_more, map_next, all_at}
use Rattle.link_cuts.specs.Cutting.{IsInCells, pin_at}
use Rattle.link_cuts.proofs.places.pin_names.Goals as goal

pub full_pin_name-requires : goal.full_pin_name-requires
full_pin_name-requires c = all_at (IsInCells c.args.cells.now) c.args.places.now c.requires c.loop-place.place c.at-at.result c.at-at.ensures

pub loop-place-preserved : goal.loop-place-preserved
loop-place-preserved c =
    push_more _ _ _ _ _ _ c.in_ok-push.ensures.ok c.loop-place.invariant c.in_ok-full_pin_name.ensures
    (ap (map pin_name) (map_next (pin_at c.args.cells.now) c.args.places.now c.loop-place.place c.at-at.result c.at-at.ensures)
    ∙ map_push pin_name _ (pin_at c.args.cells.now c.at-at.result))
