use Rattle.std.proofs.Common.{◌∙◌, true, ◌∷◌, [], List, ap, sym}
use Rattle.query_model.specs.Keys.{lit}
use Rattle.query_model.specs.declared.keys.Key.{Key}
use Rattle.frame_unroll.specs.Counting.{marked}
use Rattle.frame_unroll.specs.Found.{with_key}
use Rattle.frame_unroll.proofs.Adding.{with_keys-append}
use Rattle.frame_unroll.proofs.found_keys.add_rail.Goals as goal

pub returns : goal.returns
returns c =
    let rail = c.args.rail.now in
    c.in_ok-insert.ensures ∙ ap (λ (keys : List Key). with_key keys rail.out) c.in_ok-add_counted.ensures
    ∙ sym (with_keys-append c.args.found.now (marked c.args.places.now rail.reads) (lit true rail.out ∷ []))
