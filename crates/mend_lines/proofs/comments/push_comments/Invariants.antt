use Rattle.std.proofs.Common.{◌≡◌, ◌++◌, take}
use Rattle.std.specs.List.{flat_map}
use Rattle.mend_lines.specs.Bodies.{comment_of}
use Rattle.mend_lines.proofs.comments.push_comments.Given as goal

abbrev pub invariant-loop-place : goal.invariant-loop-place
invariant-loop-place l = l.text.items ≡ l.initial.text.items
    ++ flat_map (comment_of l.mending.depth l.mending.selected.now l.mending.verdicts.now) (take l.place l.rows)
