use Rattle.std.proofs.Common.{◌≡◌, ◌++◌, take}
use Rattle.and_graphs.specs.Texts.{rows_from, line_row}
use Rattle.and_graphs.proofs.texts.push_lines.Given as goal

abbrev pub invariant-loop-k : goal.invariant-loop-k
invariant-loop-k l = l.text.items ≡ l.fn.text.items ++ rows_from line_row l.first (take l.k l.lines)
