use Rattle.std.proofs.Common.{[], ◌∷◌, take, ◌+◌}
use Rattle.list_laws.proofs.Joining.{pushed, take_next}
use Rattle.case_inputs.proofs.inputs.with_fixed.Goals as goal

pub loop-k-preserved : goal.loop-k-preserved
loop-k-preserved c =
    pushed c.args.fixed.now c.loop-k.list c.push.new.self (c.at.result ∷ []) (take (c.loop-k.k + 1) c.args.more.now) (take c.loop-k.k c.args.more.now)
    c.loop-k.invariant c.in_ok-push.ensures.ok (take_next c.args.more.now c.loop-k.k c.at.result c.at.ensures)
