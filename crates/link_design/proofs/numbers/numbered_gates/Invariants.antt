use Rattle.std.proofs.Common.{◌≡◌, take, map}
use Rattle.link_defs.specs.Designs.{number_by, moved}
use Rattle.link_defs.specs.Designs.{gate_at}
use Rattle.link_design.proofs.numbers.numbered_gates.Given as goal

abbrev pub invariant-loop-place : goal.invariant-loop-place
invariant-loop-place l = l.list ≡ map (moved (number_by l.numbers.drivers)) (map (gate_at l.gates) (take l.place-index l.kept))
