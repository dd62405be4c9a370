use Rattle.std.proofs.Common.{◌≡◌, ℕ, List, map, take}
use Rattle.link_cuts.specs.References.{named_by}
use Rattle.link_cuts.proofs.references.counted.Given as goal

abbrev pub invariant-loop-k : goal.invariant-loop-k
invariant-loop-k l = (count : List ℕ → ℕ) → l.counts ≡ map count l.names → l.list ≡ map (named_by count) (take l.k l.names)
