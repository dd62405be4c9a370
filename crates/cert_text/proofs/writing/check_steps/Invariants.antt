use Rattle.std.proofs.Common.{take}
use Rattle.std.specs.Prelude.{All}
use Rattle.cert_text.specs.Found.{HasSmallHints}
use Rattle.cert_text.proofs.writing.check_steps.Given as goal

abbrev pub invariant-loop-step : goal.invariant-loop-step
invariant-loop-step l = All HasSmallHints (take l.step-index l.steps)
