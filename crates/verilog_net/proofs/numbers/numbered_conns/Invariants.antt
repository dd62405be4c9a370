use Rattle.std.proofs.Common.{◌≡◌, map}
use Rattle.verilog_net.specs.Uses.{numbered_conn}
use Rattle.verilog_net.proofs.numbers.numbered_conns.Given as goal

abbrev pub invariant-loop-conn : goal.invariant-loop-conn
invariant-loop-conn l = l.list ≡ map (numbered_conn l.fn.used) l.yielded
