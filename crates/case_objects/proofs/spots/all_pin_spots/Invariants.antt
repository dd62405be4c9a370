use Rattle.std.proofs.Common.{◌≡◌, take}
use Rattle.sdcv_base.specs.Seqs.{each_at}
use Rattle.case_objects.specs.Spots.{pin_spots}
use Rattle.case_objects.proofs.spots.all_pin_spots.Given as goal

abbrev pub invariant-loop-k : goal.invariant-loop-k
invariant-loop-k l = l.found ≡ each_at (pin_spots l.query) 0 (take l.k l.cells)
