use Rattle.std.proofs.Common.{◌≡◌, ◌++◌, take}
use Rattle.std.specs.Prelude.{flat_map}
use Rattle.shown_runs.specs.Lines as spec
use Rattle.shown_runs.proofs.states.add_sets.Given as goal

abbrev pub invariant-loop-signal : goal.invariant-loop-signal
invariant-loop-signal l = l.lines ≡ l.fn.lines ++ flat_map spec.set_lines (take l.signal-index l.signals)
