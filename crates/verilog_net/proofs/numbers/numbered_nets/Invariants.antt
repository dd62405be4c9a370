use Rattle.std.proofs.Common.{◌≡◌, take, map}
use Rattle.verilog_net.specs.Uses.{number_in}
use Rattle.verilog_net.proofs.numbers.numbered_nets.Given as goal

abbrev pub invariant-loop-net : goal.invariant-loop-net
invariant-loop-net l = l.list ≡ map (number_in l.used) (take l.net-index l.nets)
