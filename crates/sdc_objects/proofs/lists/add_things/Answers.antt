use Rattle.sdc_objects.proofs.Adding.{dropped_more, kept_more, meant_more}
use Rattle.sdc_objects.proofs.lists.add_things.Goals.{then-not-branch, else-not-branch}
use Rattle.sdc_objects.proofs.lists.add_things.Goals as goal

pub loop-k-preserved : goal.loop-k-preserved
loop-k-preserved g c =
    let column = g.T.Column.column c.args.scope.now.linked.now c.args.scope.now.script.now c.args.scope.now.strict c.args.edge in
    record {
      dropped = elim c.if-not-branch.branch [
        | then-not-branch w ↦
            dropped_more column c.args.things.now c.loop-k.k c.at.result _ c.loop-k.dropped c.if-not-branch.dropped c.at.ensures
            c.in_ok-add.ensures.kept w.if-not-branch.true c.loop-k.invariant.dropped w.dropped-is
        | else-not-branch w ↦
            kept_more column c.args.things.now c.loop-k.k c.at.result _ c.loop-k.dropped c.if-not-branch.dropped c.at.ensures
            c.in_ok-add.ensures.kept w.if-not-branch.false c.loop-k.invariant.dropped w.dropped-is
      ];
      items = meant_more column c.args.things.now c.loop-k.k c.at.result c.args.items.now c.loop-k.items c.add.new.found c.at.ensures
          c.loop-k.invariant.items c.in_ok-add.ensures.added;
    }
