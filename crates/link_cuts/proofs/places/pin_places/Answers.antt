use Rattle.std.proofs.Common.{arith}
use Rattle.link_cuts.proofs.Placed.{pins_none, pins_more, pins_all}
use Rattle.link_cuts.proofs.places.pin_places.Goals as goal

pub loop-cell-init : goal.loop-cell-init
loop-cell-init c = rw c.new-places.ensures (pins_none c.args.cells.now)

pub loop-cell-preserved : goal.loop-cell-preserved
loop-cell-preserved c =
    pins_more c.args.cells.now c.loop-cell.places c.push_places.new.places c.loop-cell.cell (omega arith) c.loop-cell.invariant
    c.in_ok-push_places.ensures.pins c.in_ok-push_places.ensures.at

pub returns-clause-pins : goal.returns-clause-pins
returns-clause-pins c = pins_all c.args.cells.now c.loop-cell.places c.loop-cell.cell (omega arith) c.loop-cell.invariant
