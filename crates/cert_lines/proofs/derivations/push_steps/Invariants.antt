use Rattle.std.proofs.Common.{◌≡◌, ◌++◌, take}
use Rattle.cert_lines.specs.Kinds.{text_of, step_words}
use Rattle.cert_lines.specs.Texts.{many_text}
use Rattle.cert_lines.proofs.derivations.push_steps.Given as goal

abbrev pub invariant-loop-step : goal.invariant-loop-step
invariant-loop-step l = l.out.items ≡ l.fn.out.items ++ many_text (text_of step_words) (take l.step-index l.steps)
