use Rattle.std.proofs.Common.{◌≡◌, [], drop}
use Rattle.verilog_scope.specs.Folds.{fold_ok}
use Rattle.verilog_net.specs.Spreads as spec
use Rattle.verilog_net.proofs.spreads.spreads.Given as goal

abbrev pub invariant-loop-decl : goal.invariant-loop-decl
invariant-loop-decl l = fold_ok (spec.add_spread l.scope) [] l.list ≡ fold_ok (spec.add_spread l.scope) l.found (drop l.decl-index l.list)
