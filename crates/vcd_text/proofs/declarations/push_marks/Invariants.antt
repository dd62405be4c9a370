use Rattle.std.proofs.Common.{◌≡◌, ◌++◌, take}
use Rattle.wave_signals.specs.Numbered.{numbered}
use Rattle.vcd_text.specs.Declarations as spec
use Rattle.vcd_text.proofs.declarations.push_marks.Given as goal

abbrev pub invariant-loop-place : goal.invariant-loop-place
invariant-loop-place l = l.text.items ≡ l.fn.text.items ++ numbered spec.var_line 1 (take l.place l.marks)
