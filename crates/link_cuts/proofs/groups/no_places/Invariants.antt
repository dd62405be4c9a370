use Rattle.std.proofs.Common.{◌≡◌, [], replicate}
use Rattle.link_cuts.proofs.groups.no_places.Given as goal

abbrev pub invariant-loop : goal.invariant-loop
invariant-loop l = l.groups.items ≡ replicate l.counter []
