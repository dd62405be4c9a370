use Rattle.std.proofs.Common.{◌≡◌, take, map}
use Rattle.link_defs.specs.Designs.{number_by, moved_out}
use Rattle.link_design.proofs.numbers.numbered_outs.Given as goal

abbrev pub invariant-loop-out : goal.invariant-loop-out
invariant-loop-out l = l.list ≡ map (moved_out (number_by l.numbers.drivers)) (take l.out-index l.outs)
