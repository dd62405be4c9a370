use Rattle.exception_expand.proofs.Stepping.{upto_none}
use Rattle.exception_expand.proofs.commands.all_selected.Goals as goal

pub loop-k-init : goal.loop-k-init
loop-k-init c =
    let t = c.args.task.now in
    record {
      search = c.in_ok-progress.ensures.search;
      upto = upto_none t.scope.linked.now t.scope.script.now t.judging c.in_ok-progress.progress.selected c.in_ok-progress.ensures.commands
          c.in_ok-progress.ensures.pairs c.in_ok-progress.ensures.claims;
    }
