use Rattle.std.proofs.Common.{◌≡◌, map, take}
use Rattle.design_stages.specs.Designs.{told_cut}
use Rattle.design_stages.proofs.tellings.told_cuts.Given as goal

abbrev pub invariant-loop-k : goal.invariant-loop-k
invariant-loop-k l = l.told ≡ map told_cut (take l.k l.cuts)
