use Rattle.std.proofs.Common.{◌≡◌, take, map}
use Rattle.verilog_net.specs.Uses.{numbered_wire}
use Rattle.verilog_net.proofs.numbers.numbered_wires.Given as goal

abbrev pub invariant-loop-wire : goal.invariant-loop-wire
invariant-loop-wire l = l.list ≡ map (numbered_wire l.used) (take l.wire-index l.wires)
