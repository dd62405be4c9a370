use Rattle.std.proofs.Common.{◌≡◌, Some, inr, subst}
use Rattle.std.specs.Prelude.{slice_get}
use Rattle.std.proofs.lemmas.Result.{IfOk-weaker}
use Rattle.net_model.specs.Fits.{NamesRegs}
use Rattle.net_model.specs.Queries.{clause_query}
use Rattle.net_model.specs.declared.invariants.InvClause.{InvClause}
use Rattle.net_model.proofs.Settling.{All-at}
use Rattle.frame_unroll.specs.Tabled.{CodedDesign}
use Rattle.cnf_encode.specs.Problems.{IsProblemFor}
use Rattle.query_asks.specs.Asks.{IsRightFor, IsRightOf}
use Rattle.query_asks.specs.declared.asks.Asked.{Asked}
use Rattle.query_asks.proofs.Asking.{clause_asks}
use Rattle.query_asks.proofs.asks.ask_clause.Goals as goal

pub returns : goal.returns
returns c =
    let d = c.args.design.now in
    let inv = c.args.inv.now in
    let probe = c.args.probe in
    IfOk-weaker c.answer_of.result (IsRightFor c.in_ok-problem.problem probe.budget)
    (λ (a : Asked). (clause : InvClause) → slice_get inv c.args.place ≡ Some clause
    → IsRightOf (clause_query d inv clause probe.phase probe.depth) probe.budget a)
    (λ asked right clause at.
    let name = All-at (NamesRegs d) inv c.args.place clause at c.requires.names in
    right d (clause_query d inv clause probe.phase probe.depth) c.requires.sound
    (inr (clause_asks d inv clause probe.phase probe.depth name c.requires.names c.requires.few))
    (subst (λ (t : CodedDesign). IsProblemFor t.coding (clause_query t.design inv clause probe.phase probe.depth) c.in_ok-problem.problem)
    c.coded-coded.ensures (c.in_ok-problem.ensures.exact clause at)))
    c.answer_of.ensures
