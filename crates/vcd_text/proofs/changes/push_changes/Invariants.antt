use Rattle.std.proofs.Common.{◌≡◌, ◌++◌, take}
use Rattle.wave_signals.specs.Numbered.{numbered}
use Rattle.vcd_text.specs.Changes as spec
use Rattle.vcd_text.proofs.changes.push_changes.Given as goal

abbrev pub invariant-loop-place : goal.invariant-loop-place
invariant-loop-place l = l.text.items ≡ l.fn.text.items ++ numbered (spec.change_line l.cycle) l.first (take l.place l.signals)
