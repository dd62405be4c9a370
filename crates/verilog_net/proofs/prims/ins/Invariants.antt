use Rattle.std.proofs.Common.{◌≡◌, drop}
use Rattle.verilog_scope.specs.Folds.{fold_ok, each, pushing}
use Rattle.verilog_net.specs.Wires as wires
use Rattle.verilog_net.proofs.prims.ins.Given as goal

abbrev pub invariant-loop-term : goal.invariant-loop-term
invariant-loop-term l = each (wires.wire_of l.scope) l.list ≡ fold_ok (pushing (wires.wire_of l.scope)) l.found (drop l.term-index l.list)
