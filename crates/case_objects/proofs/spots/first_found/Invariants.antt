use Rattle.std.proofs.Common.{◌≡◌, map, drop}
use Rattle.sdc_objects.specs.Things.{first_some}
use Rattle.case_objects.specs.Spots.{spots_in}
use Rattle.case_objects.proofs.spots.first_found.Given as goal

abbrev pub invariant-loop-class : goal.invariant-loop-class
invariant-loop-class l =
    first_some (map (spots_in l.names l.query) l.classes) ≡ first_some (map (spots_in l.names l.query) (drop l.class-index l.classes))
