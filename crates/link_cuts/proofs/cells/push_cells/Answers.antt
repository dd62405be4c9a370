use Rattle.std.proofs.Common.{List, ◌++◌, [], ◌∷◌, ap, ◌∙◌}
use Rattle.link_defs.specs.declared.cuts.CutCell.{CutCell}
use Rattle.link_items.proofs.Listing.{step_more}
use Rattle.link_cuts.proofs.Grouped.{cells_next}
use Rattle.link_cuts.proofs.cells.push_cells.Goals as goal

pub loop-k-preserved : goal.loop-k-preserved
loop-k-preserved c =
    step_more c.args.cells.now _ _ _ _ _
    (c.in_ok-push.ensures.ok ∙ ap (λ (x : CutCell). c.loop-k.cells ++ x ∷ []) c.in_ok-cell_in.ensures) c.loop-k.invariant
    (cells_next c.args.scope.now c.args.items.now c.args.places.now c.loop-k.k c.at.result c.item.result.now c.at.ensures c.item.ensures)
