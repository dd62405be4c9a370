use Rattle.std.proofs.Common.{◌≡◌, map, take}
use Rattle.verilog_scope.specs.Scopes.{net_name}
use Rattle.verilog_scope.proofs.scopes.Scope.net_names.Given as goal

abbrev pub invariant-loop-net : goal.invariant-loop-net
invariant-loop-net l = l.names ≡ map (net_name l.self) (take l.net-index l.fn.nets)
