use Rattle.judgements.specs.Judgements.{AreFoundFirst}
use Rattle.judgements.proofs.judging.verdicts_on.Given as goal

abbrev pub invariant-loop-place : goal.invariant-loop-place
invariant-loop-place g l = AreFoundFirst l.design l.claims l.inv.kept l.limits l.place l.verdicts
