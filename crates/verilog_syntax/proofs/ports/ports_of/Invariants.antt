use Rattle.std.proofs.Common.{◌≡◌, map}
use Rattle.verilog_syntax.specs.Ports.{port_of}
use Rattle.verilog_syntax.proofs.ports.ports_of.Given as goal

abbrev pub invariant-loop-name : goal.invariant-loop-name
invariant-loop-name l = l.ports ≡ map (port_of l.fn.turn) l.yielded
