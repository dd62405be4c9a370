use Rattle.std.proofs.Common.{◌≡◌, map, drop}
use Rattle.verilog_scope.specs.Folds.{fold_ok}
use Rattle.verilog_scope.specs.Decls as spec
use Rattle.verilog_scope.proofs.decls.add_new.Given as goal

abbrev pub invariant-loop-one : goal.invariant-loop-one
invariant-loop-one g l =
    fold_ok spec.with_new l.fn.names (map g.T.Named.named l.these) ≡ fold_ok spec.with_new l.names (map g.T.Named.named (drop l.one-index l.these))
