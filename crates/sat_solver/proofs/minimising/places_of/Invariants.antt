use Rattle.std.proofs.Common.{◌<◌, All}
use Rattle.sat_solver.proofs.minimising.places_of.Given as goal

-- the places so far are below the start
abbrev pub invariant-loop-l : goal.invariant-loop-l
invariant-loop-l l = All (λ n. n < l.start) l.places.items
