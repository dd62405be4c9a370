use Rattle.std.proofs.Common.{◌≡◌, take}
use Rattle.link_cuts.specs.References.{references_of}
use Rattle.link_cuts.proofs.references.references_of.Given as goal

abbrev pub invariant-loop-k : goal.invariant-loop-k
invariant-loop-k l = l.names ≡ references_of (take l.k l.cells)
