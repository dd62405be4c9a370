use Rattle.std.proofs.Common.{◌≡◌, take, map}
use Rattle.std.specs.Prelude.{flat_map}
use Rattle.link_defs.specs.Designs.{number_by, moved_reg}
use Rattle.link_defs.specs.Circuits.{part_regs}
use Rattle.link_design.proofs.numbers.numbered_regs.Given as goal

abbrev pub invariant-loop-part : goal.invariant-loop-part
invariant-loop-part l = l.list ≡ map (moved_reg (number_by l.numbers.drivers)) (flat_map part_regs (take l.part-index l.parts))
