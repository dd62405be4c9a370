use Rattle.std.proofs.Common.{arith}
use Rattle.query_model.specs.Keys.{key}
use Rattle.frame_unroll.proofs.KeySets.{has_at}
use Rattle.frame_unroll.proofs.key_sets.has_number.Goals as goal

pub returns : goal.returns
returns c =
    has_at c.args.keys.now c.args.number c.args.key (key 0 0 0 0) c.eq.result (omega (arith, c.if-number-eq0.false)) c.if-keys-number.false c.eq.ensures
