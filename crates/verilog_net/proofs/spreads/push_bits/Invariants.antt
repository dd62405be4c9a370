use Rattle.std.proofs.Common.{◌≡◌, ◌++◌, drop}
use Rattle.verilog_net.specs.Spreads as spec
use Rattle.verilog_net.proofs.spreads.push_bits.Given as goal

abbrev pub invariant-loop-place : goal.invariant-loop-place
invariant-loop-place l = l.found ++ spec.bit_conns l.pin (drop l.place l.wires) ≡ l.fn.found ++ spec.bit_conns l.pin l.wires
