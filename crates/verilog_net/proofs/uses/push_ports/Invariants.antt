use Rattle.std.proofs.Common.{◌≡◌, ◌++◌, take}
use Rattle.std.specs.Prelude.{flat_map}
use Rattle.verilog_net.specs.Uses.{port_nets}
use Rattle.verilog_net.proofs.uses.push_ports.Given as goal

abbrev pub invariant-loop-port : goal.invariant-loop-port
invariant-loop-port l = l.nets ≡ l.fn.nets ++ flat_map port_nets (take l.port-index l.ports)
