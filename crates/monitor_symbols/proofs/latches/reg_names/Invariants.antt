use Rattle.std.proofs.Common.{◌≡◌, map}
use Rattle.std.specs.List.{range_with_len}
use Rattle.monitor_symbols.specs.Latches.{reg_name}
use Rattle.monitor_symbols.proofs.latches.reg_names.Given as goal

abbrev pub invariant-loop-reg : goal.invariant-loop-reg
invariant-loop-reg l = l.names ≡ map (reg_name l.cells) (range_with_len 0 l.reg)
