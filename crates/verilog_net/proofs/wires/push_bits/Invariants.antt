use Rattle.std.proofs.Common.{◌≡◌, ◌++◌, take}
use Rattle.verilog_net.specs.Wires.{constants}
use Rattle.verilog_net.proofs.wires.push_bits.Given as goal

abbrev pub invariant-loop-bit : goal.invariant-loop-bit
invariant-loop-bit l = l.found ≡ l.fn.found ++ constants (take l.bit-index l.bits)
