use Rattle.std.proofs.Common.{◌≡◌, take}
use Rattle.mended_text.specs.Tellings.{all_rows}
use Rattle.mended_text.proofs.totals.all_rows.Given as goal

abbrev pub invariant-loop-part : goal.invariant-loop-part
invariant-loop-part l = l.rows ≡ all_rows (take l.part-index l.parts)
