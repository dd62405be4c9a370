use Rattle.std.proofs.Common.{◌+◌, ◌∷◌, [], take, map}
use Rattle.exception_expand.specs.Pairs.{pair}
use Rattle.list_laws.proofs.Joining.{pushed, map_next}
use Rattle.exception_expand.proofs.pairs.push_pairs.Goals as goal

pub loop-k-preserved : goal.loop-k-preserved
loop-k-preserved c =
    pushed c.args.pairs.now c.loop-k.pairs c.push.new.self (pair c.args.start c.at.result ∷ [])
    (map (pair c.args.start) (take (c.loop-k.k + 1) c.args.ends.now))
    (map (pair c.args.start) (take c.loop-k.k c.args.ends.now)) c.loop-k.invariant c.in_ok-push.ensures.ok
    (map_next (pair c.args.start) c.args.ends.now c.loop-k.k c.at.result c.at.ensures)
