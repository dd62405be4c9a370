use Rattle.std.proofs.Common.{◌≡◌, take}
use Rattle.std.specs.Prelude.{flat_map}
use Rattle.link_design.specs.Lists.{part_marks}
use Rattle.link_design.proofs.lists.marks_of.Given as goal

abbrev pub invariant-loop-part : goal.invariant-loop-part
invariant-loop-part l = l.marks ≡ flat_map part_marks (take l.part-index l.circuit.parts)
