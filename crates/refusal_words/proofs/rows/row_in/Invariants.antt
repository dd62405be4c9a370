use Rattle.std.proofs.Common.{◌≡◌, map, drop}
use Rattle.refusal_words.specs.Rows.{row_in, seen_row}
use Rattle.refusal_words.proofs.rows.row_in.Given as goal

abbrev pub invariant-loop-row : goal.invariant-loop-row
invariant-loop-row l = row_in (map seen_row l.rows) l.line ≡ row_in (map seen_row (drop l.row-index l.rows)) l.line
