use Rattle.std.proofs.Common.{◌≡◌, ◌<◌, take}
use Rattle.verilog_words.specs.Numbers.{run_value}
use Rattle.verilog_words.proofs.numbers.value_below.Given as goal

abbrev pub invariant-loop-byte : goal.invariant-loop-byte
invariant-loop-byte l = record {
  value : l.value ≡ run_value l.radix (take l.byte-index l.run);
  small : l.value < l.limit;
}
