use Rattle.std.proofs.Common.{◌≡◌, ◌++◌, take}
use Rattle.verilog_net.proofs.uses.push_nets.Given as goal

abbrev pub invariant-loop-net : goal.invariant-loop-net
invariant-loop-net l = l.nets ≡ l.fn.nets ++ take l.net-index l.more
