use Rattle.std.proofs.Common.{◌≡◌, take}
use Rattle.sdcv_base.specs.Seqs.{each_at}
use Rattle.case_objects.specs.Spots.{bit_spot}
use Rattle.case_objects.proofs.spots.bit_spots.Given as goal

abbrev pub invariant-loop-i : goal.invariant-loop-i
invariant-loop-i l = l.found ≡ each_at (bit_spot l.query) 0 (take l.i l.ins)
