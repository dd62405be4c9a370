use Rattle.std.proofs.Common.{◌∙◌, ap, sym, List, cond}
use Rattle.query_model.specs.declared.keys.Key.{Key}
use Rattle.frame_unroll.specs.Found.{with_key}
use Rattle.frame_unroll.proofs.Marks.{with_marked}
use Rattle.frame_unroll.proofs.found_keys.add_counted.Goals as goal

pub loop-i-preserved : goal.loop-i-preserved
loop-i-preserved c =
    c.in_ok-add_where.ensures
    ∙ (ap (λ (keys : List Key). cond c.at-counts.result (with_key keys c.at-lit.result.key) keys) c.loop-i.invariant
    ∙ sym (with_marked c.args.found.now c.args.places.now c.args.lits.now c.loop-i.i c.at-counts.result c.at-lit.result c.at-counts.ensures
    c.at-lit.ensures))
