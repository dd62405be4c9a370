use Rattle.std.proofs.Common.{◌≡◌, take}
use Rattle.shown_runs.specs.Rows.{zero_name, walked}
use Rattle.shown_runs.proofs.InputRows.{bits_in}
use Rattle.shown_runs.proofs.zeros.zero_names.Given as goal

abbrev pub invariant-loop-signal : goal.invariant-loop-signal
invariant-loop-signal l = record {
  names : l.names ≡ walked (zero_name l.shown.dont_cares l.shown.cycles) 0 (take l.signal-index l.signal-items);
  input : l.input ≡ bits_in (take l.signal-index l.signal-items);
}
