use Rattle.std.proofs.lemmas.Result.{IfOk-weaker}
use Rattle.verdicts.specs.Verdicts.{IsRight}
use Rattle.pair_prove.specs.Proving.{HoldsWhereJustified, IsLeastWhereRefuted}
use Rattle.pair_prove.proofs.Growing.{holds_of_right, least_of_right}
use Rattle.pair_prove.proofs.proving.prove.Goals as goal

pub returns-clause-holds : goal.returns-clause-holds
returns-clause-holds c =
    let d = c.args.design.now in
    let claim = c.args.claim.now in
    let kept = c.args.inv.now.kept in
    let limits = c.args.limits.now in
    IfOk-weaker c.verdict_of.result (IsRight d claim kept limits) (HoldsWhereJustified d claim)
    (λ v right. holds_of_right d claim kept limits v c.requires.sound c.requires.met right) c.verdict_of.ensures.right

pub returns-clause-violated : goal.returns-clause-violated
returns-clause-violated c =
    let d = c.args.design.now in
    let claim = c.args.claim.now in
    let kept = c.args.inv.now.kept in
    let limits = c.args.limits.now in
    IfOk-weaker c.verdict_of.result (IsRight d claim kept limits) (IsLeastWhereRefuted d claim)
    (λ v right. least_of_right d claim kept limits v right) c.verdict_of.ensures.right
