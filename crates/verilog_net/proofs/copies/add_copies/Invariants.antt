use Rattle.std.proofs.Common.{◌≡◌, drop}
use Rattle.verilog_scope.specs.Folds.{fold_both}
use Rattle.verilog_net.specs.Items.{add_copy}
use Rattle.verilog_net.proofs.copies.add_copies.Given as goal

abbrev pub invariant-loop-i : goal.invariant-loop-i
invariant-loop-i l = fold_both (add_copy l.offset) l.fn.items l.to l.from ≡ fold_both (add_copy l.offset) l.items (drop l.i l.to) (drop l.i l.from)
