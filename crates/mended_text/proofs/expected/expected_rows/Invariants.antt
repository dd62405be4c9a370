use Rattle.std.proofs.Common.{◌≡◌, take}
use Rattle.std.specs.List.{flat_map}
use Rattle.mended_text.specs.Claims.{part_rows}
use Rattle.mended_text.proofs.expected.expected_rows.Given as goal

abbrev pub invariant-loop-part : goal.invariant-loop-part
invariant-loop-part l = l.rows ≡ flat_map part_rows (take l.part-index l.parts)
