use Rattle.std.proofs.Common.{◌≡◌, ◌++◌, take}
use Rattle.std.specs.Prelude.{flat_map}
use Rattle.verilog_net.specs.Uses.{conn_nets}
use Rattle.verilog_net.proofs.uses.push_conns.Given as goal

abbrev pub invariant-loop-conn : goal.invariant-loop-conn
invariant-loop-conn l = l.nets ≡ l.fn.nets ++ flat_map conn_nets (take l.conn-index l.conns)
