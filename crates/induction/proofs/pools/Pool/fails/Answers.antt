use Rattle.std.proofs.Common.{◌∙◌, Some, ap, arith}
use Rattle.std.proofs.lemmas.Option.{slice_get-get_or}
use Rattle.induction.proofs.pools.Pool.fails.Goals as goal

pub returns : goal.returns
returns c = (
  λ yes. cc,
  λ found. absurd (c.loop-k.invariant found.1.0 found.0 (omega (arith, found.1.1, c.loop-k-test.false, c.loop-k.auto))
      (slice_get-get_or c.args.self.now.runs found.1.0 found.0 found.1.1 ∙ ap Some found.1.2) found.2),
)
