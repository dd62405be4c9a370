use Rattle.std.proofs.Common.{◌∙◌, ap, get_or, List}
use Rattle.std.proofs.lemmas.Option.{slice_get-get_or}
use Rattle.query_model.specs.Keys.{key}
use Rattle.query_model.specs.Formula.{has_key}
use Rattle.query_model.specs.declared.keys.Key.{Key}
use Rattle.frame_unroll.proofs.KeySets.{new_after}
use Rattle.frame_unroll.proofs.key_sets.KeySet.of.Goals as goal

pub add-requires : goal.add-requires
add-requires c =
    let keys = c.args.keys.now in
    let i = c.loop-key.key-index in
    let k : Key = get_or keys i (key 0 0 0 0) in
    ap (λ (ks : List Key). has_key ks k) c.loop-key.invariant
    ∙ new_after keys i k c.requires.distinct (slice_get-get_or keys i (key 0 0 0 0) c.loop-key-test.true)
