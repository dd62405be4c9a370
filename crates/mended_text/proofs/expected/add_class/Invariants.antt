use Rattle.std.proofs.Common.{◌≡◌, ◌++◌, take}
use Rattle.mend_lines.specs.Lines.{of_class}
use Rattle.mended_text.proofs.expected.add_class.Given as goal

abbrev pub invariant-loop-row : goal.invariant-loop-row
invariant-loop-row l = l.rows ≡ l.initial.rows ++ of_class l.class (take l.row-index l.row-items)
