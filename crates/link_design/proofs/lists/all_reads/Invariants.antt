use Rattle.std.proofs.Common.{◌≡◌, ◌++◌, take}
use Rattle.std.specs.Prelude.{flat_map}
use Rattle.link_defs.specs.Circuits.{part_reads}
use Rattle.link_design.proofs.lists.all_reads.Given as goal

abbrev pub invariant-loop-part : goal.invariant-loop-part
invariant-loop-part l = l.nets ≡ l.circuit.outputs ++ flat_map part_reads (take l.part-index l.circuit.parts)
