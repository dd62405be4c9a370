use Rattle.std.proofs.Common.{◌≡◌, ◌∙◌, List, subst, sym}
use Rattle.std.specs.Prelude.{◌⊎◌}
use Rattle.std.proofs.lemmas.Result.{IfOk-weaker}
use Rattle.net_model.specs.Queries.{Query, IsAnswer}
use Rattle.net_model.specs.declared.netlist.Design.{Design}
use Rattle.net_model.specs.declared.cycles.Cycle.{Cycle}
use Rattle.cnf_encode.specs.Problems.{IsClaimQuery, IsClauseQuery, IsProblemFor}
use Rattle.query_model.specs.declared.keys.Coding.{Coding}
use Rattle.verdicts.specs.Logs.{own_coding}
use Rattle.query_asks.specs.Asks.{IsFoundFor}
use Rattle.query_asks.proofs.found.Found.run.Goals as goal

pub returns : goal.returns
returns c =
    let found = c.args.self.now in
    IfOk-weaker c.read_back.result
    (λ (run : List Cycle). (coding : Coding) (q : Query) → IsClaimQuery c.bare.result.now q ⊎ IsClauseQuery c.bare.result.now q
    → IsProblemFor coding q found.problem → IsAnswer q run)
    (λ (run : List Cycle). (q : Query) → q.design ≡ c.args.design.now → IsFoundFor q found → IsAnswer q run)
    (λ run answers q own is.
    answers own_coding q (subst (λ (e : Design). IsClaimQuery e q ⊎ IsClauseQuery e q) (own ∙ sym c.bare.ensures) is.asks) is.problem)
    c.read_back.ensures.answers
