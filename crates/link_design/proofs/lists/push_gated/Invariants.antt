use Rattle.std.proofs.Common.{◌≡◌, ◌++◌, take}
use Rattle.std.specs.Prelude.{flat_map}
use Rattle.link_defs.specs.Circuits.{part_gated}
use Rattle.link_design.proofs.lists.push_gated.Given as goal

abbrev pub invariant-loop-part : goal.invariant-loop-part
invariant-loop-part l = l.nets ≡ l.fn.nets ++ flat_map part_gated (take l.part-index l.parts)
