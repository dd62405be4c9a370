use Rattle.std.proofs.Common.{◌≡◌, ◌++◌, take}
use Rattle.std.specs.Prelude.{flat_map}
use Rattle.verilog_net.specs.Uses.{wire_nets}
use Rattle.verilog_net.proofs.uses.push_wires.Given as goal

abbrev pub invariant-loop-wire : goal.invariant-loop-wire
invariant-loop-wire l = l.nets ≡ l.fn.nets ++ flat_map wire_nets (take l.wire-index l.wires)
