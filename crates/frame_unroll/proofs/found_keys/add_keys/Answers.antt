use Rattle.std.proofs.Common.{◌∙◌, ap, sym, List}
use Rattle.query_model.specs.declared.keys.Key.{Key}
use Rattle.frame_unroll.specs.Found.{with_key}
use Rattle.frame_unroll.proofs.Adding.{with_keys-take}
use Rattle.frame_unroll.proofs.found_keys.add_keys.Goals as goal

pub loop-i-preserved : goal.loop-i-preserved
loop-i-preserved c =
    c.in_ok-insert.ensures
    ∙ ap (λ (keys : List Key). with_key keys c.at.result.key) c.loop-i.invariant
    ∙ sym (with_keys-take c.args.found.now c.args.lits.now c.loop-i.i c.at.result c.at.ensures)
