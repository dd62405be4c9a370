use Rattle.std.proofs.Common.{◌≡◌, ◌++◌}
use Rattle.monitor_symbols.specs.Latches.{each_numbered}
use Rattle.monitor_symbols.proofs.latches.add_numbered.Given as goal

abbrev pub invariant-loop-number : goal.invariant-loop-number
invariant-loop-number l = l.names ≡ l.fn.names ++ each_numbered l.word l.number
