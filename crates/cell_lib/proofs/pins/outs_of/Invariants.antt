use Rattle.std.proofs.Common.{◌≡◌, take}
use Rattle.std.specs.List.{flat_map}
use Rattle.cell_lib.specs.Pins.{outs_in}
use Rattle.cell_lib.proofs.pins.outs_of.Given as goal

abbrev pub invariant-loop-part : goal.invariant-loop-part
invariant-loop-part l = l.found ≡ flat_map outs_in (take l.part-index l.parts)
