use Rattle.link_cuts.proofs.Freed.{IsFreeTo}
use Rattle.link_cuts.proofs.frees.free_places.Given as goal

abbrev pub invariant-loop-place : goal.invariant-loop-place
invariant-loop-place l = IsFreeTo l.marks l.cells l.places l.place l.seen l.free
