use Rattle.std.proofs.Common.{◌≡◌, [], map, take, drop}
use Rattle.verilog_scope.specs.Folds.{fold_ok}
use Rattle.verilog_scope.specs.Decls.{with_new}
use Rattle.verilog_net.proofs.pins.check_few.Given as goal

abbrev pub invariant-loop-place : goal.invariant-loop-place
invariant-loop-place g l = fold_ok with_new [] (map g.T.Pinned.pin l.list)
    ≡ fold_ok with_new (map g.T.Pinned.pin (take l.place l.list)) (map g.T.Pinned.pin (drop l.place l.list))
