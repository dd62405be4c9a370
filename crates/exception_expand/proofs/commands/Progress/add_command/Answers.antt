use Rattle.exception_expand.proofs.Results.{if_err, on_ok}
use Rattle.exception_expand.proofs.Stepping.{upto_more}
use Rattle.exception_expand.proofs.Adding.{cause_at}
use Rattle.exception_expand.proofs.commands.Progress.add_command.Goals as goal

pub returns-clause-ok : goal.returns-clause-ok
returns-clause-ok c =
    let t = c.args.task.now in
    on_ok c.add_what.result c.add_what.ensures.ok
    (upto_more t.scope.linked.now t.scope.script.now t.judging c.args.k c.item-command.result.now c.args.self.now.selected
    c.add_what.new.self.selected c.item-command.ensures c.requires.before)

pub returns-clause-err : goal.returns-clause-err
returns-clause-err c =
    let t = c.args.task.now in
    if_err c.add_what.result c.add_what.ensures.err
    (cause_at t.scope.linked.now t.scope.script.now t.judging c.args.k c.item-command.result.now c.args.self.now.selected
    c.item-command.ensures c.requires.before)
