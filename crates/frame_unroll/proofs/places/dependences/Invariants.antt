use Rattle.std.proofs.Common.{◌≡◌, map}
use Rattle.net_model.specs.Form.{value}
use Rattle.query_model.specs.Keys.{below}
use Rattle.frame_unroll.specs.Counting.{depends}
use Rattle.frame_unroll.proofs.places.dependences.Given as goal

abbrev pub invariant-loop-place : goal.invariant-loop-place
invariant-loop-place l = l.marks ≡ map (depends (value l.func) l.places) (below l.place)
