use Rattle.exception_expand.specs.Asking.{asked_by}
use Rattle.exception_expand.specs.Points.{IsFrom}
use Rattle.exception_expand.proofs.Driving.{begun_those}
use Rattle.exception_expand.proofs.lists.lists_of.Goals as goal

pub returns-clause-lists : goal.returns-clause-lists
returns-clause-lists c =
    let l = c.args.scope.now.linked.now in
    let e = (asked_by c.args.ask.now).exception in
    record {
      starts = begun_those l c.args.points.now (IsFrom l c.args.scope.now.script.now c.args.scope.now.strict e.edge e.from) c.in_ok-meant.meant c.in_ok-starts.starts
          c.requires.points c.in_ok-meant.ensures.those c.in_ok-starts.ensures;
      sets = c.in_ok-sets.ensures.sets;
      ends = c.in_ok-ends.ensures.those;
    }
