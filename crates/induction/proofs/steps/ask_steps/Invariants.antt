use Rattle.induction.specs.Steps.{AreStepsRefuted}
use Rattle.induction.proofs.steps.ask_steps.Given as goal

abbrev pub invariant-loop-place : goal.invariant-loop-place
invariant-loop-place l = AreStepsRefuted l.design l.clauses l.depth l.place l.steps
