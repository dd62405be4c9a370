use Rattle.std.proofs.Common.{◌≡◌, take}
use Rattle.std.specs.Prelude.{filter}
use Rattle.link_design.specs.Kept.{is_kept}
use Rattle.link_design.proofs.kept.kept_places.Given as goal

abbrev pub invariant-loop-place : goal.invariant-loop-place
invariant-loop-place l = l.kept ≡ filter (is_kept l.tree l.ordered.gates l.ordered.marks) (take l.place-index l.ordered.order)
