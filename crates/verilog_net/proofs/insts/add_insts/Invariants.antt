use Rattle.std.proofs.Common.{◌≡◌, drop}
use Rattle.verilog_scope.specs.Folds.{fold_ok}
use Rattle.verilog_net.specs.Hierarchies.{inner_of}
use Rattle.verilog_net.specs.Items as spec
use Rattle.verilog_net.proofs.insts.add_insts.Given as goal

abbrev pub invariant-loop-decl : goal.invariant-loop-decl
invariant-loop-decl l = fold_ok (spec.add_inst l.hierarchy.wide l.scope (inner_of l.hierarchy l.cell) l.cell) l.fn.items l.list ≡ fold_ok
    (spec.add_inst l.hierarchy.wide l.scope (inner_of l.hierarchy l.cell) l.cell) l.items (drop l.decl-index l.list)
