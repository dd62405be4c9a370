use Rattle.std.proofs.Common.{◌<◌, length, subst, sym, ap, ◌∙◌}
use Rattle.link_defs.specs.declared.cuts.CutCell.{CutCell}
use Rattle.link_cuts.specs.Cutting.{own_pin}
use Rattle.link_cuts.proofs.Placed.{cell_read, pin_read}
use Rattle.link_cuts.proofs.places.pin_at.Goals as goal

pub item-requires-2 : goal.item-requires-2
item-requires-2 c =
    subst (λ (x : CutCell). c.args.at.pin < length x.pins) (cell_read c.args.cells.now c.args.at.cell c.item.result.now c.item.ensures) c.requires.pin

pub returns : goal.returns
returns c =
    sym (ap (λ (x : CutCell). own_pin x c.args.at.pin) (cell_read c.args.cells.now c.args.at.cell c.item.result.now c.item.ensures)
    ∙ pin_read c.item.result.now c.args.at.pin c.item-2.result.now c.item-2.ensures)
