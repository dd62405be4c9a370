use Rattle.sdc_objects.proofs.Adding.{object_more, warnings_more}
use Rattle.sdc_objects.proofs.lists.meant.Goals as goal

pub loop-k-preserved : goal.loop-k-preserved
loop-k-preserved g c =
    let l = c.args.scope.now.linked.now in
    let script = c.args.scope.now.script.now in
    let strict = c.args.scope.now.strict in
    let column = g.T.Column.column l script strict c.args.edge in
    record {
      items = object_more column l script strict g.T.Column.at c.args.objects.now c.loop-k.k c.item.result.now c.loop-k.items c.add_object.new.items
          c.item.ensures c.loop-k.invariant.items c.in_ok-add_object.ensures.items;
      warnings = warnings_more column l script strict g.T.Column.at c.args.objects.now c.loop-k.k c.item.result.now c.args.warnings.now
          c.loop-k.warnings c.add_object.new.warnings c.item.ensures c.loop-k.invariant.warnings c.in_ok-add_object.ensures.warnings;
    }
