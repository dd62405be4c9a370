use Rattle.net_paths.specs.Searches.{IsSearchOf}
use Rattle.exception_expand.specs.Progress.{IsUpTo}
use Rattle.exception_expand.proofs.commands.all_selected.Given as goal

abbrev pub invariant-loop-k : goal.invariant-loop-k
invariant-loop-k l = record {
  search : IsSearchOf l.task.scope.linked.now.design l.progress.search;
  upto : IsUpTo l.task.scope.linked.now l.task.scope.script.now l.task.judging l.k l.progress.selected;
}
