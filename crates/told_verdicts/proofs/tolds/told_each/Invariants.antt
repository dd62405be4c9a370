use Rattle.told_verdicts.specs.Tolds.{AreTold}
use Rattle.told_verdicts.proofs.tolds.told_each.Given as goal

abbrev pub invariant-loop-verdict : goal.invariant-loop-verdict
invariant-loop-verdict l = AreTold l.design l.free l.claims l.yielded l.told
