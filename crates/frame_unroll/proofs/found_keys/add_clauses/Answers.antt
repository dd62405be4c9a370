use Rattle.std.proofs.Common.{◌∙◌, ap, sym, List}
use Rattle.query_model.specs.declared.keys.Key.{Key}
use Rattle.frame_unroll.specs.Found.{with_keys}
use Rattle.frame_unroll.proofs.Adding.{with_clauses-take}
use Rattle.frame_unroll.proofs.found_keys.add_clauses.Goals as goal

pub loop-i-preserved : goal.loop-i-preserved
loop-i-preserved c =
    c.in_ok-add_keys.ensures
    ∙ ap (λ (keys : List Key). with_keys keys c.item.result.now) c.loop-i.invariant
    ∙ sym (with_clauses-take c.args.found.now c.args.clauses.now c.loop-i.i c.item.result.now c.item.ensures)
