use Rattle.std.proofs.Common.{◌≡◌, ◌++◌, take}
use Rattle.shown_runs.specs.Rows.{input_row, walked}
use Rattle.shown_runs.proofs.InputRows.{bits_in}
use Rattle.shown_runs.proofs.rows.add_inputs.Given as goal

abbrev pub invariant-loop-signal : goal.invariant-loop-signal
invariant-loop-signal l = record {
  rows : l.rows ≡ l.fn.rows ++ walked (input_row l.marks l.cycles) 0 (take l.signal-index l.signals);
  input : l.input ≡ bits_in (take l.signal-index l.signals);
}
