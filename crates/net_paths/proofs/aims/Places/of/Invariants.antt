use Rattle.net_paths.specs.Aims.{ArePlacesUpTo}
use Rattle.net_paths.proofs.aims.Places.of.Given as goal

abbrev pub invariant-loop-k : goal.invariant-loop-k
invariant-loop-k l = ArePlacesUpTo l.design l.ends l.k l.places
