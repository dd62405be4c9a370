use Rattle.std.proofs.Common.{◌∙◌, ◌+◌, ◌++◌, ◌∷◌, [], take, map, ap}
use Rattle.exception_expand.specs.Pairs.{claim_for}
use Rattle.net_model.specs.declared.claims.Claim.{Claim}
use Rattle.list_laws.proofs.Joining.{pushed, map_next}
use Rattle.exception_expand.proofs.claims.push_claims.Goals as goal

pub loop-k-preserved : goal.loop-k-preserved
loop-k-preserved c =
    let of = claim_for c.args.terms.now.ports c.args.terms.now.kind c.args.terms.now.edge c.args.terms.now.judging c.args.terms.now.sets.now in
    let xs = c.args.sides.now in
    pushed c.args.claims.now c.loop-k.claims c.push.new.self (of c.at.result ∷ []) (map of (take (c.loop-k.k + 1) xs)) (map of (take c.loop-k.k xs))
    c.loop-k.invariant (c.in_ok-push.ensures.ok ∙ ap (λ (x : Claim). c.loop-k.claims ++ x ∷ []) c.in_ok-claim_of.ensures)
    (map_next of xs c.loop-k.k c.at.result c.at.ensures)
