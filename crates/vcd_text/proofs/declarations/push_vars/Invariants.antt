use Rattle.std.proofs.Common.{◌≡◌, ◌+◌, ◌++◌, [], drop}
use Rattle.vcd_text.specs.Declarations as spec
use Rattle.vcd_text.proofs.declarations.push_vars.Given as goal

abbrev pub invariant-loop-place : goal.invariant-loop-place
invariant-loop-place l = l.text.items ++ spec.vars l.entered (l.first + l.place) (drop l.place l.signals) ≡ l.fn.text.items ++ spec.vars [] l.first l.signals
