use Rattle.std.proofs.Common.{◌≡◌, ◌≤◌, take}
use Rattle.wave_signals.specs.Signals.{scopes_text}
use Rattle.wave_signals.proofs.splits.scopes_of.Given as goal

abbrev pub invariant-loop-place : goal.invariant-loop-place
invariant-loop-place l = record { within : l.rest ≤ l.place; is : scopes_text l.scopes ≡ take l.rest l.name }
