use Rattle.std.proofs.Common.{◌≡◌, ◌++◌, take}
use Rattle.sdc_objects.specs.Standing.{meant_of, dropped_of}
use Rattle.sdc_objects.proofs.lists.add_things.Given as goal

abbrev pub invariant-loop-k : goal.invariant-loop-k
invariant-loop-k g l = record {
  dropped : l.dropped ≡ dropped_of (g.T.Column.column l.scope.linked.now l.scope.script.now l.scope.strict l.edge) (take l.k l.things);
  items : l.items ≡ l.fn.items ++ meant_of (g.T.Column.column l.scope.linked.now l.scope.script.now l.scope.strict l.edge) (take l.k l.things);
}
