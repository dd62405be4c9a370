use Rattle.std.proofs.Common.{◌≡◌, ◌++◌, take, map, codes}
use Rattle.mend_lines.specs.Lines.{joined_by, name_text}
use Rattle.mend_lines.proofs.names.push_names.Given as goal

abbrev pub invariant-loop-place : goal.invariant-loop-place
invariant-loop-place l = l.text.items ≡ l.initial.text.items ++ joined_by (codes " ") (map (name_text l.ends l.pairs) (take l.place l.rows))
