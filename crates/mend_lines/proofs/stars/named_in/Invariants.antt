use Rattle.std.proofs.Common.{◌≡◌, take}
use Rattle.std.specs.Prelude.{filter}
use Rattle.mend_lines.specs.Lines.{is_named}
use Rattle.mend_lines.proofs.stars.named_in.Given as goal

abbrev pub invariant-loop-place : goal.invariant-loop-place
invariant-loop-place l = l.rows ≡ filter (is_named l.class) (take l.place l.star)
