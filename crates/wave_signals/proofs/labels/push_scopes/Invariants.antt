use Rattle.std.proofs.Common.{◌≡◌, ◌++◌, take}
use Rattle.wave_signals.specs.Signals.{scopes_text}
use Rattle.wave_signals.proofs.labels.push_scopes.Given as goal

abbrev pub invariant-loop-scope : goal.invariant-loop-scope
invariant-loop-scope l = l.text.items ≡ l.fn.text.items ++ scopes_text (take l.scope-index l.scopes)
