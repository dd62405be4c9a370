use Rattle.std.proofs.Common.{◌≡◌, ◌≤◌, ◌++◌}
use Rattle.verilog_words.specs.Constants as spec
use Rattle.verilog_words.proofs.constants.bits_of.Given as goal

abbrev pub invariant-bits : goal.invariant-bits
invariant-bits l = record {
  within : l.left ≤ l.size;
  told : l.bits ++ spec.bits_of l.left l.value ≡ spec.bits_of l.size l.value;
}

abbrev pub decreases-bits : goal.decreases-bits
decreases-bits l = l.left
