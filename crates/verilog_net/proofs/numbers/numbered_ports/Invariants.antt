use Rattle.std.proofs.Common.{◌≡◌, map}
use Rattle.verilog_net.specs.Uses.{numbered_port}
use Rattle.verilog_net.proofs.numbers.numbered_ports.Given as goal

abbrev pub invariant-loop-port : goal.invariant-loop-port
invariant-loop-port l = l.list ≡ map (numbered_port l.fn.used) l.yielded
