use Rattle.std.proofs.Common.{◌≡◌, [], map, drop}
use Rattle.verilog_scope.specs.Folds.{fold_ok}
use Rattle.verilog_scope.specs.Decls.{with_new}
use Rattle.verilog_net.proofs.pins.check_many.Given as goal

abbrev pub invariant-loop-conn : goal.invariant-loop-conn
invariant-loop-conn g l =
    fold_ok with_new [] (map g.T.Pinned.pin l.list) ≡ fold_ok with_new l.names (map g.T.Pinned.pin (drop l.conn-index l.list))
