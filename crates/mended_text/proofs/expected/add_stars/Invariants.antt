use Rattle.std.proofs.Common.{◌≡◌, ◌++◌, take}
use Rattle.std.specs.List.{flat_map}
use Rattle.mend_lines.specs.Lines.{of_class}
use Rattle.mended_text.proofs.expected.add_stars.Given as goal

abbrev pub invariant-loop-star : goal.invariant-loop-star
invariant-loop-star l = l.rows ≡ l.initial.rows ++ flat_map (of_class l.class) (take l.star-index l.star-items)
