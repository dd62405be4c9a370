use Rattle.std.proofs.Common.{◌≡◌, take, map}
use Rattle.link_defs.specs.Cuts.{pin_name}
use Rattle.link_cuts.specs.Cutting.{pin_at}
use Rattle.link_cuts.proofs.places.pin_names.Given as goal

abbrev pub invariant-loop-place : goal.invariant-loop-place
invariant-loop-place l = l.names ≡ map pin_name (map (pin_at l.cells) (take l.place l.places))
