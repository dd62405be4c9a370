use Rattle.net_paths.proofs.Taking.{AreTakenUpTo}
use Rattle.net_paths.proofs.ends.taken.Given as goal

abbrev pub invariant-loop-place : goal.invariant-loop-place
invariant-loop-place l = AreTakenUpTo l.ends l.places l.place-index l.found
