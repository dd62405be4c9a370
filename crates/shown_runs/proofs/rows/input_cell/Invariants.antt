use Rattle.std.proofs.Common.{◌≡◌, take}
use Rattle.wave_signals.specs.Numbered.{numbered}
use Rattle.shown_runs.specs.Rows.{input_digit}
use Rattle.shown_runs.proofs.rows.input_cell.Given as goal

abbrev pub invariant-loop-place : goal.invariant-loop-place
invariant-loop-place l = l.text.items ≡ numbered (input_digit l.marks l.cycle) l.input (take l.place l.signal.values)
