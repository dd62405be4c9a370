use Rattle.std.proofs.Common.{arith}
use Rattle.std.proofs.lemmas.Option.{slice_get_within}
use Rattle.verdicts.proofs.HeldInputs.{has_none}
use Rattle.verdicts.proofs.judged.is_set.Goals as goal

pub returns : goal.returns
returns c = (
  λ yes. cc,
  λ has. absurd (has_none c.args.settings.now c.args.input
      (λ j s at. c.loop-k.invariant j s (omega (arith, slice_get_within c.args.settings.now j s at, c.loop-k-test.false, c.loop-k.auto)) at) has),
)
