use Rattle.std.proofs.Common.{◌≡◌, ◌-◌, ◌++◌, drop, length}
use Rattle.shown_runs.specs.Values as spec
use Rattle.shown_runs.proofs.values.push_hexed.Given as goal

abbrev pub invariant-loop-digit : goal.invariant-loop-digit
invariant-loop-digit l = record {
  left : l.left ≡ length l.digits - l.digit-index;
  text : l.text.items ++ spec.hexed l.four (drop l.digit-index l.digits) ≡ l.fn.text.items ++ spec.hexed 0 l.digits;
}
