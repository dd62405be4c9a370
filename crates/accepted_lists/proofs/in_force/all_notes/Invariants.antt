use Rattle.std.proofs.Common.{◌≡◌, take}
use Rattle.std.specs.Prelude.{flat_map}
use Rattle.accepted_lists.specs.InForce.{notes_on}
use Rattle.accepted_lists.proofs.in_force.all_notes.Given as goal

abbrev pub invariant-loop-line : goal.invariant-loop-line
invariant-loop-line l = l.out ≡ flat_map (notes_on l.today) (take l.line-index l.lines)
