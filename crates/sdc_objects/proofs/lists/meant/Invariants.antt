use Rattle.std.proofs.Common.{◌≡◌, ◌++◌, take}
use Rattle.sdc_objects.specs.Standing as spec
use Rattle.sdc_objects.proofs.lists.meant.Given as goal

abbrev pub invariant-loop-k : goal.invariant-loop-k
invariant-loop-k g l = record {
  items : l.items ≡ spec.meant (g.T.Column.column l.scope.linked.now l.scope.script.now l.scope.strict l.edge) l.scope.linked.now l.scope.script.now
      l.scope.strict g.T.Column.at (take l.k l.objects);
  warnings : l.warnings ≡ l.fn.warnings ++ spec.warnings (g.T.Column.column l.scope.linked.now l.scope.script.now l.scope.strict l.edge)
      l.scope.linked.now l.scope.script.now l.scope.strict g.T.Column.at (take l.k l.objects);
}
