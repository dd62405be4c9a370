use Rattle.std.proofs.Common.{◌≡◌, ◌++◌}
use Rattle.vcd_text.specs.Changes as spec
use Rattle.vcd_text.proofs.changes.push_cycles.Given as goal

abbrev pub invariant-loop-cycle : goal.invariant-loop-cycle
invariant-loop-cycle l = l.text.items ≡ l.fn.text.items ++ spec.cycles_text l.wave l.cycle
