use Rattle.sdc_settings.specs.Stages.{AreFixedSoFar}
use Rattle.sdc_settings.proofs.fixed.fixed_inputs.Given as goal

abbrev pub invariant-loop-place : goal.invariant-loop-place
invariant-loop-place l = AreFixedSoFar l.inputs l.resets l.givens l.place l.fixed
