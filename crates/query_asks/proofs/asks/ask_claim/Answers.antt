use Rattle.std.proofs.Common.{inl, subst}
use Rattle.std.proofs.lemmas.Result.{IfOk-weaker}
use Rattle.net_model.specs.Queries.{Query, claim_query}
use Rattle.frame_unroll.specs.Tabled.{CodedDesign}
use Rattle.cnf_encode.specs.Problems.{IsProblemFor}
use Rattle.query_asks.specs.Asks.{IsRightFor, IsRightOf}
use Rattle.query_asks.proofs.Asking.{claim_asks}
use Rattle.query_asks.proofs.asks.ask_claim.Goals as goal

pub returns : goal.returns
returns c =
    let d = c.args.design.now in
    let probe = c.args.probe in
    let q : Query = claim_query d c.args.claim.now probe.phase probe.depth c.args.kept.now in
    let asks = claim_asks d c.args.claim.now probe.phase probe.depth c.args.kept.now c.requires.fits c.requires.names c.requires.few in
    IfOk-weaker c.answer_of.result (IsRightFor c.in_ok-problem.problem probe.budget) (IsRightOf q probe.budget)
    (λ asked right. right d q c.requires.sound (inl asks)
    (subst (λ (t : CodedDesign). IsProblemFor t.coding (claim_query t.design c.args.claim.now probe.phase probe.depth c.args.kept.now)
    c.in_ok-problem.problem) c.coded-coded.ensures c.in_ok-problem.ensures.exact)) c.answer_of.ensures
