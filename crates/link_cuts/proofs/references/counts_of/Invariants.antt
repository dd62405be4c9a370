use Rattle.std.proofs.Common.{take}
use Rattle.link_cuts.proofs.Counted.{AreCounts}
use Rattle.link_cuts.proofs.references.counts_of.Given as goal

abbrev pub invariant-loop-k : goal.invariant-loop-k
invariant-loop-k l = AreCounts (take l.k l.cells) l.references l.counts
