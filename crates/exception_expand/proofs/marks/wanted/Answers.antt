use Rattle.std.proofs.Common.{◌∙◌, List, sym, subst}
use Rattle.std.specs.Prelude.{Option, None, IfOk}
use Rattle.net_paths.specs.Those.{AreThose}
use Rattle.script_types.specs.declared.objects.Object.{Object}
use Rattle.sdc_objects.specs.Standing as standing
use Rattle.exception_expand.specs.Points.{IsMeant}
use Rattle.exception_expand.proofs.Sharing.{those_everything}
use Rattle.exception_expand.proofs.Results.{if_ok}
use Rattle.exception_expand.proofs.marks.wanted.Goals as goal

pub returns-in-Some-clause-those : goal.returns-in-Some-clause-those
returns-in-Some-clause-those g c =
    let l = c.args.scope.now.linked.now in
    let script = c.args.scope.now.script.now in
    let of = standing.meant (g.T.Column.column l script c.args.scope.now.strict c.args.edge) l script c.args.scope.now.strict g.T.Column.at in
    subst (λ (o : Option (List Object)). IfOk c.listed.result (AreThose (IsMeant of o) (g.T.Listed.all l.design))) (sym c.in-Some.is) c.listed.ensures.those

pub returns-in-None-clause-those : goal.returns-in-None-clause-those
returns-in-None-clause-those g c =
    let l = c.args.scope.now.linked.now in
    let script = c.args.scope.now.script.now in
    let of = standing.meant (g.T.Column.column l script c.args.scope.now.strict c.args.edge) l script c.args.scope.now.strict g.T.Column.at in
    let all = g.T.Listed.all l.design in
    subst (λ (o : Option (List Object)). IfOk c.copy.result (AreThose (IsMeant of o) all)) (sym c.in-None.is)
    (if_ok c.copy.result c.copy.ensures (λ found is. subst (AreThose (IsMeant of None) all) (sym (is ∙ c.requires.all))
    (those_everything (IsMeant of None) all (λ x. tt))))
