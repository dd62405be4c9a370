use Rattle.std.proofs.Common.{◌≡◌, take}
use Rattle.sdcv_base.specs.Seqs.{each_at}
use Rattle.monitor_symbols.specs.Symbols.{symbol}
use Rattle.monitor_symbols.proofs.symbols.lines_of.Given as goal

abbrev pub invariant-loop-number : goal.invariant-loop-number
invariant-loop-number l = l.text.items ≡ each_at symbol 0 (take l.number l.latches)
