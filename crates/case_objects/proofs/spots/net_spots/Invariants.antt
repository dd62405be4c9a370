use Rattle.std.proofs.Common.{◌≡◌, take}
use Rattle.sdcv_base.specs.Seqs.{each_at}
use Rattle.case_objects.specs.Spots.{net_spot}
use Rattle.case_objects.proofs.spots.net_spots.Given as goal

abbrev pub invariant-loop-place : goal.invariant-loop-place
invariant-loop-place l = l.found ≡ each_at (net_spot l.query) 0 (take l.place l.nets)
