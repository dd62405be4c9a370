use Rattle.std.proofs.Common.{◌≡◌, ◌++◌, take}
use Rattle.sdcv_base.specs.Seqs.{each_at}
use Rattle.case_objects.specs.Spots.{pin_spot}
use Rattle.case_objects.proofs.spots.add_pin_spots.Given as goal

abbrev pub invariant-loop-place : goal.invariant-loop-place
invariant-loop-place l = l.found ≡ l.fn.found ++ each_at (pin_spot l.query l.k l.cell.name) 0 (take l.place l.cell.pins)
