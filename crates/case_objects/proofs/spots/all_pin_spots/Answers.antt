use Rattle.std.proofs.Common.{[]}
use Rattle.list_laws.proofs.Joining.{added}
use Rattle.case_objects.specs.Spots.{pin_spots}
use Rattle.case_objects.proofs.spots.all_pin_spots.Goals as goal

pub loop-k-preserved : goal.loop-k-preserved
loop-k-preserved c =
    added (pin_spots c.args.query.now) c.args.cells.now [] c.loop-k.found c.add_pin_spots.new.found c.loop-k.k c.item.result.now c.item.ensures
    c.loop-k.invariant c.in_ok-add_pin_spots.ensures
