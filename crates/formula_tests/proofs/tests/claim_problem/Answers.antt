use Rattle.std.proofs.Common.{refl, inl}
use Rattle.std.proofs.lemmas.Result.{IfOk-weaker}
use Rattle.net_model.specs.Queries.{claim_query}
use Rattle.cnf_encode.specs.Problems.{IsMadeFor}
use Rattle.formula_tests.proofs.tests.claim_problem.Goals as goal

pub returns : goal.returns
returns c =
    let d = c.args.design.now.design in
    let claim = c.args.claim.now in
    let inv = c.args.inv.now in
    IfOk-weaker c.formula.result _ (IsMadeFor d)
    (λ p exact. record {
      coding = c.args.design.now.coding;
      query = claim_query d claim c.args.phase c.args.depth inv;
      asks = inl record {
        claim = claim;
        phase = c.args.phase;
        depth = c.args.depth;
        inv = inv;
        fits = c.requires.fits;
        few = c.requires.few;
        names = c.requires.names;
        is = refl;
      };
      is = exact;
    }) c.formula.ensures.exact
